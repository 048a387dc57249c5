-- The zero table: a layer over any ledger, with a bit for each cell told 0.
use Rattle.std.specs.Prelude.{◌≡◌, ℕ, ◌-◌, ◌/◌, ◌%◌, ◌^◌, ◌<◌, ◌≤◌, min, Bool, true, false, ◌≢◌, ◌↔◌, List, Some, None, Option, ◌==◌, slice_index}
use Rattle.ledgers.specs.Answers.{OfAgreeing}
use Rattle.ledgers.specs.Meaning.{Ops, Settled, InRange}
use Rattle.ledgers.specs.Tables.{Cell}
use Rattle.zeros.specs.declared.zeros.Bits.{Bits}
use Rattle.zeros.specs.declared.zeros.Zeros.{Zeros}

-- Place j of a word, the lowest being 0: 0 or 1.
abbrev pub digit : ℕ → ℕ → ℕ
digit word j = word / 2 ^ j % 2

-- The bit of cell c: place (c - 1) % 64 of word (c - 1) / 64.
unfoldable pub bit : Bits → ℕ → Bool
bit bits c = digit (slice_index bits.words ((c - 1) / 64)) ((c - 1) % 64) == 1

-- The first of a word's 64 places, from a place on, that is set.
abbrev pub FirstPlace : ℕ → ℕ → Option ℕ → Type 0
FirstPlace word from (Some j) = (from ≤ j) × (j < 64) × (digit word j ≡ 1) × ((i : ℕ) → from ≤ i → i < j → digit word i ≡ 0)
FirstPlace word from None = (i : ℕ) → from ≤ i → digit word i ≡ 0

-- The first of 1,024 cells, from c on, whose bit is set.
abbrev pub FirstSet : Bits → ℕ → Option ℕ → Type 0
FirstSet bits c (Some d) = Cell 1024 d × (c ≤ d) × (bit bits d ≡ true) × ((e : ℕ) → 1 ≤ e → c ≤ e → e < d → bit bits e ≡ false)
FirstSet bits c None = (e : ℕ) → Cell 1024 e → c ≤ e → bit bits e ≡ false

-- Each bit but that of c is as it was.
abbrev pub SameBut : ℕ → Bits → Bits → Type 0
SameBut c bits bits' = (d : ℕ) → 1 ≤ d → d ≢ c → bit bits' d ≡ bit bits d

-- The bit of c, which is one of 1,024 cells, becomes what on says. Each other is as it was.
pub record Put (c : ℕ) (on : Bool) (bits bits' : Bits) : Type 0 where
  pub made : Cell 1024 c → bit bits' c ≡ on
  pub others : SameBut c bits bits'

module _ {L : Type 0} (o : Ops L) where
  -- The bit of c is right: set exactly if 0 is told of c.
  abbrev pub BitRight : L → Bits → ℕ → Type 0
  BitRight l bits c = (bit bits c ≡ true) ↔ (o.tells l c ≡ Some 0)

  -- Those of all cells are.
  abbrev pub BitsRight : L → Bits → Type 0
  BitsRight l bits = (c : ℕ) → Cell (o.cells l) c → BitRight l bits c

  -- The bit of c was brought up to date. What a ledger tells is known only if it is settled and agrees with some table.
  abbrev pub Fresh : L → Bits → ℕ → Type 0
  Fresh l bits c = OfAgreeing o l (Settled o l → Cell (o.cells l) c → BitRight l bits c)

  -- The bits of all cells were.
  abbrev pub Rebuilt : L → Bits → Type 0
  Rebuilt l bits = OfAgreeing o l (Settled o l → BitsRight l bits)

  -- The bit of c alone was brought up to date.
  pub record Marked (l : L) (c : ℕ) (bits bits' : Bits) : Type 0 where
    pub fresh : Fresh l bits' c
    pub others : SameBut c bits bits'

  -- It agrees with what the ledger below agrees with, its bits being right if that one is settled.
  pub record ZerosAgrees (z : Zeros L) (t : List ℕ) : Type 0 where
    pub agrees : o.Agrees z.below t
    pub right : Settled o z.below → BitsRight z.below z.inner

  -- The ledger below is cleared, and the bits are rebuilt.
  pub record ZerosClears (n : ℕ) (z z' : Zeros L) : Type 0 where
    pub clears : o.Clears n z.below z'.below
    pub rebuilt : Rebuilt z'.below z'.inner

  -- The ledger below takes the note. If it was settled and still is, the bits of old and new are brought up to date, and each other is as it was.
  -- If it became settled, all are rebuilt. If it is unsettled, they are as they were.
  pub record ZerosNoted (s old new : ℕ) (z z' : Zeros L) : Type 0 where
    pub notes : o.Notes s old new z.below z'.below
    pub fresh_old : Settled o z.below → Fresh z'.below z'.inner old
    pub fresh_new : Settled o z.below → Fresh z'.below z'.inner new
    pub others : Settled o z.below → Settled o z'.below → (c : ℕ) → 1 ≤ c → c ≢ old → c ≢ new → bit z'.inner c ≡ bit z.inner c
    pub rebuilt : (Settled o z.below → ⊥) → Rebuilt z'.below z'.inner
    pub unsettled : (Settled o z'.below → ⊥) → z'.inner ≡ z.inner

  -- A note out of range changes nothing.
  pub record ZerosNotes (s old new : ℕ) (z z' : Zeros L) : Type 0 where
    pub inside : InRange o z.below s old new → ZerosNoted s old new z z'
    pub outside : (InRange o z.below s old new → ⊥) → z' ≡ z

  -- The ledger below settles. If it was settled, the bits are as they were; if not, they are rebuilt.
  pub record ZerosSettles (z z' : Zeros L) : Type 0 where
    pub settles : o.Settles z.below z'.below
    pub kept : Settled o z.below → z'.inner ≡ z.inner
    pub rebuilt : (Settled o z.below → ⊥) → Rebuilt z'.below z'.inner

  -- The ledger below takes the recount, and the bit of c is brought up to date.
  pub record ZerosRecounted (c m : ℕ) (z z' : Zeros L) : Type 0 where
    pub recounts : o.Recounts c m z.below z'.below
    pub marked : Marked z'.below c z.inner z'.inner

  -- On an unsettled one, or for a cell out of range, a recount changes nothing.
  pub record ZerosRecounts (c m : ℕ) (z z' : Zeros L) : Type 0 where
    pub inside : Settled o z.below → Cell (o.cells z.below) c → ZerosRecounted c m z z'
    pub outside : (Settled o z.below × Cell (o.cells z.below) c → ⊥) → z' ≡ z

  -- What it tells is what the ledger below tells. It puts nothing off itself.
  abbrev pub zeros_ops : Ops (Zeros L)
  zeros_ops = record {
    ceiling = o.ceiling;
    capacity = λ z. min 1024 (o.capacity z.below);
    cells = λ z. o.cells z.below;
    waiting = λ z. o.waiting z.below;
    tells = λ z. o.tells z.below;
    Agrees = ZerosAgrees;
    Clears = ZerosClears;
    Notes = ZerosNotes;
    Settles = ZerosSettles;
    Recounts = ZerosRecounts;
  }
