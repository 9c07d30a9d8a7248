-- Of 96 bytes, those behind a text's are zero, also once more is put before them. Assumes nothing.
use Rattle.std.proofs.Common.{◌≡◌, ap, sym, ◌∙◌, ℕ, ◌+◌, ◌-◌, ◌≤◌, List, length, drop, replicate, slice_set, arith}
use Rattle.std.proofs.lemmas.List.{drop-drop, drop-replicate, drop-set-lt}
use Rattle.std.proofs.lemmas.Slice.{drop-put_mid}
use borrow.Rule.Slice.PartMut.{put_mid}

-- farther behind they are zero too
rest_behind : (l : List ℕ) (n m : ℕ) → n ≤ m → drop n l ≡ replicate (96 - n) 0 → drop m l ≡ replicate (96 - m) 0
rest_behind l n m h e =
    let from : m ≡ n + (m - n) = omega (arith, h) in
    let left : 96 - n - (m - n) ≡ 96 - m = omega (arith, h) in
    ap (λ k. drop k l) from ∙ sym (drop-drop (m - n) n l) ∙ ap (drop (m - n)) e ∙ drop-replicate (m - n) (96 - n) 0 ∙ ap (λ k. replicate k 0) left

pub rest_set : (l : List ℕ) (n b : ℕ) → drop n l ≡ replicate (96 - n) 0 → drop (n + 1) (slice_set l n b) ≡ replicate (96 - (n + 1)) 0
rest_set l n b e = drop-set-lt (n + 1) l n b (omega arith) ∙ rest_behind l n (n + 1) (omega arith) e

pub rest_put : (l s : List ℕ) (n m : ℕ) → n ≤ m → n ≤ length l → length s ≡ m - n → drop n l ≡ replicate (96 - n) 0 → drop m (put_mid n (m - n) l s) ≡ replicate (96 - m) 0
rest_put l s n m g h f e = drop-put_mid n (m - n) l s m (omega (arith, g)) h f ∙ rest_behind l n m g e
