-- What is known of the refused block, and whether a part fits a buffer. Assumes nothing.
use mathlib.Core.Path.{ap, ap₂, sym, ◌∙◌}
use mathlib.Core.Bool.{Bool}
use mathlib.Core.List.{List, ◌++◌}
use lib.ListN.{length, drop}
use Rattle.std.proofs.Common.{◌≡◌, true, false, ℕ, ◌<◌, ◌≤◌, arith}
use Rattle.definitions.specs.Bounded.{◌upto◌}
use Rattle.definitions.proofs.Bounded.{true_of, false_of, upto_iff}
use Rattle.analysis.proofs.Refused.{there-both}
use Rattle.packing.specs.Packed.{pack}
use Rattle.capi.specs.Copied.{copied, pack_copied}

pub upto_true : (m n : ℕ) → m ≤ n → (m upto n) ≡ true
upto_true m n h = true_of (m upto n) ((upto_iff m n).1 h)

pub upto_false : (m n : ℕ) → n < m → (m upto n) ≡ false
upto_false m n h = false_of (m upto n) (λ t. let q = (upto_iff m n).0 t in omega arith)

-- a part that fits, and one that does not
answer_by : List ℕ → Bool → ℕ
answer_by part b = elim b [ true ↦ pack 0 0 (length part) 0 | false ↦ 7 ]

bytes_by : List ℕ → List ℕ → Bool → List ℕ
bytes_by part buffer b = elim b [ true ↦ part ++ drop (length part) buffer | false ↦ buffer ]

pub fits_both : (p part buffer out : List ℕ) (n r : ℕ) → part ≡ p → length part ≤ length buffer → n ≡ length part
    → out ≡ part ++ drop (length part) buffer → r ≡ pack 0 0 n 0 → (r ≡ pack_copied p buffer) × (out ≡ copied p buffer)
unfolding pack_copied copied answer_by bytes_by
fits_both p part buffer out n r e h l q a =
    let t : (length p upto length buffer) ≡ true = upto_true (length p) (length buffer) (omega (arith, ap length e, h)) in (
      a ∙ ap (λ (m : ℕ). pack 0 0 m 0) (l ∙ ap length e) ∙ sym (ap (answer_by p) t),
      q ∙ ap₂ ◌++◌ e (ap (λ (x : List ℕ). drop (length x) buffer) e) ∙ sym (ap (bytes_by p buffer) t),
    )

pub long_both : (p part buffer : List ℕ) → part ≡ p → length buffer < length part → (7 ≡ pack_copied p buffer) × (buffer ≡ copied p buffer)
unfolding pack_copied copied answer_by bytes_by
long_both p part buffer e h =
    let t : (length p upto length buffer) ≡ false = upto_false (length p) (length buffer) (omega (arith, ap length e, h)) in
    (sym (ap (answer_by p) t), sym (ap (bytes_by p buffer) t))

pub ruleset fits = (upto_true, upto_false)

pub ruleset placed = (there-both)
