-- Parts of a list of words: an array of records is so many slots of w words each, from word `base`. Assumes nothing.
use Rattle.std.specs.Prelude.{List, ◌++◌, ℕ, ◌+◌, ◌-◌, ◌*◌, length, get_or, take, drop, set, replicate}

abbrev pub word : List ℕ → ℕ → ℕ
word r k = get_or r k 0

unfoldable pub zeros : ℕ → List ℕ
zeros n = replicate n 0

-- w words from word `off` on; the list with other words there
unfoldable pub part : List ℕ → ℕ → ℕ → List ℕ
part r off w = take w (drop off r)

unfoldable pub put : List ℕ → ℕ → List ℕ → List ℕ
put r off x = take off r ++ x ++ drop (off + length x) r

module _ (base w : ℕ) where
  -- slot i; the list with other words in slot i
  unfoldable pub slot : List ℕ → ℕ → List ℕ
  slot r i = part r (base + w * i) w

  unfoldable pub put_slot : List ℕ → ℕ → List ℕ → List ℕ
  put_slot r i x = put r (base + w * i) x

  -- slot i of cap is taken out: the later ones move down, and zeros come last
  unfoldable pub drop_slot : ℕ → List ℕ → ℕ → List ℕ
  drop_slot cap r i = put r (base + w * i) (drop (w * (i + 1)) (part r base (w * cap)) ++ zeros w)

  -- word c counts the slots in use: one more is put behind them; slot i is taken out
  unfoldable pub push_slot : ℕ → List ℕ → List ℕ → List ℕ
  push_slot c r x = set (put_slot r (word r c) x) c (word r c + 1)

  unfoldable pub take_slot : ℕ → ℕ → List ℕ → ℕ → List ℕ
  take_slot cap c r i = set (drop_slot cap r i) c (word r c - 1)
