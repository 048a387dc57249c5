-- The words of a text, by the first byte that is not blank and by the first blank. Assumes nothing.
use Rattle.std.proofs.Common.{◌≡◌, ℕ, zero, suc, ◌+◌, ◌-◌, ◌<◌, ◌≤◌, true, false, [], ◌∷◌, length, get_or, take, drop, filter, nat_lt, Some, None, Option, MatchOption, sym, refl, ap, ◌∙◌, add-one, lt-ltb, arith}
use Rattle.std.specs.List.{AllWithin, HoldsAt, slice_split}
use Rattle.std.specs.Option.{unwrap_or}
use Rattle.std.proofs.lemmas.List.{drop_more, get_or-drop, length-drop, length-take-le}
use Rattle.std.proofs.Math.ListN.{drop_of_length-le}
use Rattle.std.proofs.Math.Seq.{take-length}
use Rattle.std.proofs.lemmas.List.Splits.{slice_split-cons_yes, slice_split-cons_no, slice_split_none}
use Rattle.parts.specs.Text.{Bytes, blank, words}

blank_first : (x : ℕ) (xs : Bytes) → blank x ≡ true → words (x ∷ xs) ≡ words xs
blank_first x xs e = ap (filter (λ p. nat_lt 0 (length p))) (slice_split-cons_yes blank x xs e)

-- Blanks alone are no words.
pub no_words : (xs : Bytes) → AllWithin (λ b. blank b ≡ true) xs 0 (length xs) → words xs ≡ []
no_words [] blanks = refl
no_words (x ∷ xs) blanks = blank_first x xs (blanks 0 x (omega arith) (omega arith)) ∙ no_words xs (λ k d l h. blanks (suc k) d (omega arith) (omega arith))

-- Blanks at the front change nothing.
pub words_after : (xs : Bytes) (i : ℕ) → i ≤ length xs → AllWithin (λ b. blank b ≡ true) xs 0 i → words xs ≡ words (drop i xs)
words_after xs zero few blanks = refl
words_after [] (suc i) few blanks = absurd (omega arith)
words_after (x ∷ xs) (suc i) few blanks = blank_first x xs (blanks 0 x (omega arith) (omega arith)) ∙ words_after xs i (omega arith) (λ k d l h. blanks (suc k) d (omega arith) (omega arith))

-- A text is one piece up to its first blank.
cut_at : (xs : Bytes) (i : ℕ) → i < length xs → AllWithin (λ b. blank b ≡ false) xs 0 i → HoldsAt (λ b. blank b ≡ true) xs i → slice_split blank xs ≡ take i xs ∷ slice_split blank (drop (suc i) xs)
cut_at [] i within before here = absurd (omega arith)
cut_at (x ∷ xs) zero within before here = slice_split-cons_yes blank x xs (here x)
cut_at (x ∷ xs) (suc i) within before here =
    let rest = cut_at xs i (omega arith) (λ k d l h. before (suc k) d (omega arith) (omega arith)) (λ d. here d) in
    slice_split-cons_no blank x xs (before 0 x (omega arith) (omega arith)) ∙ rw rest refl

-- A text that begins with its first word: that ends at the first blank, or with the text.
pub word_to_blank : (xs : Bytes) (i : ℕ) → 0 < i → i < length xs → AllWithin (λ b. blank b ≡ false) xs 0 i → HoldsAt (λ b. blank b ≡ true) xs i → words xs ≡ take i xs ∷ words (drop i xs)
word_to_blank xs i some within before here =
    let size = length-take-le i xs (omega arith) in
    let rest : words (drop i xs) ≡ words (drop (suc i) xs) = ap words (drop_more xs i 0 within) ∙ blank_first (get_or xs i 0) (drop (i + 1) xs) (here 0) ∙ ap (λ (k : ℕ). words (drop k xs)) (add-one i) in
    ap (filter (λ p. nat_lt 0 (length p))) (cut_at xs i within before here)
    ∙ rw (lt-ltb 0 (length (take i xs)) (omega (arith, size)), rest) refl

pub word_to_end : (xs : Bytes) → 0 < length xs → AllWithin (λ b. blank b ≡ false) xs 0 (length xs) → words xs ≡ xs ∷ []
word_to_end xs some plain =
    ap (filter (λ p. nat_lt 0 (length p))) (slice_split_none blank xs (λ k d h. plain k d (omega arith) h))
    ∙ rw (lt-ltb 0 (length xs) some) refl

-- A byte that is not blank stands before the first blank.
first_is_plain : (xs ys : Bytes) (i j : ℕ) → ys ≡ drop i xs → HoldsAt (λ b. blank b ≡ false) xs i → HoldsAt (λ b. blank b ≡ true) ys j → 0 < j
first_is_plain xs ys i zero from plain blanks =
    let same : get_or ys 0 0 ≡ get_or xs i 0 = ap (λ (l : Bytes). get_or l 0 0) from ∙ get_or-drop i xs 0 0 ∙ ap (λ (k : ℕ). get_or xs k 0) (omega arith) in
    let both : true ≡ false = sym (blanks 0) ∙ ap blank same ∙ plain 0 in
    absurd cc
first_is_plain xs ys i (suc j) from plain blanks = omega arith

-- The first word from place i on, where the first byte that is not blank stands, and what comes after it.
pub word_from : (xs ys : Bytes) (i : ℕ) (end : Option ℕ) → ys ≡ drop i xs → i < length xs → HoldsAt (λ b. blank b ≡ false) xs i → AllWithin (λ b. blank b ≡ true) xs 0 i
    → MatchOption end (AllWithin (λ b. blank b ≡ false) ys 0 (length ys)) (λ j. (j < length ys) × HoldsAt (λ b. blank b ≡ true) ys j × AllWithin (λ b. blank b ≡ false) ys 0 j)
    → (words xs ≡ take (unwrap_or end (length ys)) ys ∷ words (drop (unwrap_or end (length ys)) ys)) × (length (drop (unwrap_or end (length ys)) ys) < length xs)
word_from xs ys i None from within here blanks plain =
    let size : length ys ≡ length xs - i = ap length from ∙ length-drop i xs in
    let none : drop (length ys) ys ≡ [] = drop_of_length-le ys (omega arith) in (
      words_after xs i (omega arith) blanks ∙ ap words (sym from) ∙ word_to_end ys (omega (arith, size)) plain ∙ rw (take-length ys, none) refl,
      rw none (omega arith),
    )
word_from xs ys i (Some j) from within here blanks found =
    let size : length ys ≡ length xs - i = ap length from ∙ length-drop i xs in
    let left = length-drop j ys in
    let some : 0 < j = first_is_plain xs ys i j from here found.1 in (
      words_after xs i (omega arith) blanks ∙ ap words (sym from) ∙ word_to_blank ys j some found.0 found.2 found.1,
      omega (arith, size, left, found.0),
    )
