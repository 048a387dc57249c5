-- What a write to one row does to what the rows tell. Assumes nothing.
use Rattle.std.proofs.Common.{◌≡◌, ℕ, suc, ◌+◌, ◌<◌, ◌≤◌, List, [], ◌∷◌, ◌++◌, map, length, get_or, take, drop, set, replicate, Some, None, Option, sym, ap, ◌∙◌, arith}
use Rattle.ledgers.specs.Bottoms.{Counts, counts_of}
use Rattle.std.proofs.lemmas.List.{append_assoc, drop_more, get_or-map, append-nil, drop-map, drop_all, length-map, length-replicate, length-take-le, map-append, map-set, replicate_more, set_at}

module _ {R : Type 0} (reads : R → Option ℕ) (rows : List R) where
  -- a row as the counts have it
  pub row_read : (c i : ℕ) (row : R) → c ≡ suc i → i < length rows → row ≡ get_or rows i row → reads row ≡ get_or (counts_of reads rows) c None
  row_read c i row e lt is = ap reads is ∙ sym (get_or-map reads rows i row None lt) ∙ ap (λ (k : ℕ). get_or (counts_of reads rows) k None) (sym e)

  pub row_written : (c i : ℕ) (row : R) (x : Option ℕ) → c ≡ suc i → reads row ≡ x → counts_of reads (set rows i row) ≡ set (counts_of reads rows) c x
  row_written c i row x e is =
      ap (λ (v : Counts). None ∷ v) (map-set reads rows i row ∙ ap (set (map reads rows) i) is)
      ∙ ap (λ (k : ℕ). set (counts_of reads rows) k x) (sym e)

-- one row more is new
pub renew_more : {R : Type 0} (reads : R → Option ℕ) (start rows : List R) (i : ℕ) (row : R) → i < length start → reads row ≡ Some 0
    → map reads rows ≡ replicate i (Some 0) ++ drop i (map reads start)
    → map reads (set rows i row) ≡ replicate (i + 1) (Some 0) ++ drop (i + 1) (map reads start)
renew_more reads start rows i row lt new inv =
    let told_0 : Option ℕ = Some 0 in
    let front : List (Option ℕ) = replicate i told_0 in
    let long : length front ≡ i = length-replicate i told_0 in
    map-set reads rows i row ∙ (λ j. set (inv j) i (new j))
    ∙ ap (λ (v : List (Option ℕ)). set (front ++ v) i told_0) (drop_more (map reads start) i None (omega (arith, length-map start reads)))
    ∙ set_at front _ (drop (i + 1) (map reads start)) told_0 i long
    ∙ sym (append_assoc front (told_0 ∷ []) (drop (i + 1) (map reads start)))
    ∙ ap (λ (v : List (Option ℕ)). v ++ drop (i + 1) (map reads start)) (replicate_more i told_0)

-- the first n rows are new, and the others as they were
pub renewed : {R : Type 0} (reads : R → Option ℕ) (start items : List R) (n i : ℕ) → n ≤ length start → i ≡ length (take n start)
    → map reads items ≡ replicate i (Some 0) ++ drop i (map reads (take n start))
    → map reads (items ++ drop n start) ≡ replicate n (Some 0) ++ drop n (map reads start)
renewed reads start items n i fits all inv =
    let long : length (take n start) ≡ n = length-take-le n start fits in
    let none : drop i (map reads (take n start)) ≡ [] = drop_all i (map reads (take n start)) (omega (arith, length-map (take n start) reads)) in
    map-append reads items (drop n start)
    ∙ (λ j. (inv ∙ ap (λ v. replicate i (Some 0) ++ v) none ∙ append-nil (replicate i (Some 0)) ∙ ap (λ k. replicate k (Some 0)) (all ∙ long)) j
    ++ sym (drop-map reads n start) j)
