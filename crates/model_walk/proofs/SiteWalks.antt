-- Laws of the walk over the sites of a box: from digits to rule 6, and what holds after i sites where no wrong digit was found. Assumes nothing.
use mathlib.Core.Path.{◌≡◌, refl, sym, ap, ◌∙◌, subst}
use mathlib.Core.Bool.{Bool, true, false}
use mathlib.Core.List.{List}
use mathlib.Core.Logic.{inl, inr}
use Prim.Native.Nat.{ℕ, ◌+◌, ◌-◌, ◌*◌, ◌/◌, ◌%◌, ◌^◌, ◌≤◌, ◌<◌}
use native.Mathlib.Nat.{le_antisymm}
use native.Mathlib.Omega.{arith}
use borrow.Author.Rules.{rules}
use borrow.Author.Tests.{eq-eqb}
use lib.Dec.{T, leb}
use lib.Bits.{bit_and, bit_or}
use Rattle.definitions.specs.Bounded.{◌and◌, ◌or◌, ◌is◌, ◌upto◌, all_below}
use Rattle.definitions.specs.Sets.{has}
use Rattle.definitions.specs.Words.{block_of, data_word}
use Rattle.definitions.specs.Answer.{refusal}
use Rattle.definitions.specs.Model.{Site}
use Rattle.definitions.specs.Image.{model_of}
use Rattle.definitions.specs.ReadModel.{type_fits, used_before, site_fits}
use Rattle.definitions.proofs.Bounded.{upto_iff, true_of, false_of, of_true}
use Rattle.definitions.proofs.Faults.{first_iff, passed_iff}
use Rattle.definitions.proofs.Image.{site_of}
use Rattle.definitions.proofs.Sets.{has_one, has-or}
use Rattle.record_rules.specs.Rules.{DecidesSite}
use Rattle.record_rules.proofs.RuleLaws.{site_decided}
use Rattle.records.specs.NameSets.{SetOf}
use Rattle.box_runs.specs.Runs.{box_misfit}
use Rattle.box_runs.proofs.Runs.{SiteRun, site-start, site-turn, site_end}
use Rattle.line_table.specs.Told.{Empty}
use Rattle.line_table.proofs.Digits.{in_or, in_set, empty_or_left, empty_or_right, field_zero}
use Rattle.line_table.proofs.Lines.{not_in}
use Rattle.line_table.proofs.TypeLaws.{one-digit}
use Rattle.model_walk.specs.Sites.{site_zero, TypeTold, SiteTold, SitesGiven, SitesTold}

-- ---- one site

-- from the code's words to what its wrong digits tell
module _ (free w type : ℕ) where
  pub type_right : (n : ℕ) (b : Bool) → b ≡ type_fits (has free) n type → b ≡ true → n ≡ w % 256 → TypeTold free w type 0
  type_right n b e q z = record { tells = λ _. subst (λ (n : ℕ). T (type_fits (has free) n type)) z (of_true (sym e ∙ q)) }

  pub type_wrong : TypeTold free w type 1
  type_wrong = record { tells = λ e. absurd (one-digit e) }

  pub site_told : (used x t : ℕ) → w < 2 ^ 64 → free < 2 ^ 64 → x ≡ 2 ^ (w % 64) → TypeTold free w type t
      → SiteTold free used w type (bit_or (bit_or (bit_and w site_zero) (bit_and x (bit_or (2 ^ 64 - 1 - free) used))) t)
  site_told used x t hw hf e k =
      let subject = bit_and x (bit_or (2 ^ 64 - 1 - free) used) in
      record {
        digits = λ z. empty_or_left (bit_and w site_zero) subject (empty_or_left (bit_or (bit_and w site_zero) subject) t z);
        subject = λ z.
            subst (λ (x : ℕ). Empty (bit_and x (bit_or (2 ^ 64 - 1 - free) used))) e
            (empty_or_right (bit_and w site_zero) subject (empty_or_left (bit_or (bit_and w site_zero) subject) t z));
        typed = λ z. k.tells (empty_or_right (bit_or (bit_and w site_zero) subject) t z);
        first = hw;
        frees = hf;
      }

-- the digits that are zero: two of the subject, seven of the flag, all of the rest
zero-subject : T (all_below 2 (λ j. has site_zero (6 + j)))
unfolding all_below has ◌and◌
zero-subject = tt

zero_flag : T (all_below 7 (λ j. has site_zero (9 + j)))
unfolding all_below has ◌and◌
zero_flag = tt

zero_spare : T (all_below 48 (λ j. has site_zero (16 + j)))
unfolding all_below has ◌and◌
zero_spare = tt

-- a site by its two words
abbrev site_word : ℕ → ℕ → Site
site_word w type = record { subject = w % 256; flag = w / 2 ^ 8 % 256; spare = w / 2 ^ 16; type = type }

-- a site with no wrong digit fits
module _ (free used w type r : ℕ) (s : SiteTold free used w type r) (e : Empty r) where
  pub subject_small : w % 256 ≡ w % 64
  subject_small = let f : w / 2 ^ 6 % 2 ^ 2 ≡ 0 = field_zero w site_zero 6 2 (s.digits e) zero-subject in omega arith

  flag_small : w / 2 ^ 8 % 256 ≤ 1
  flag_small = let f : w / 2 ^ 9 % 2 ^ 7 ≡ 0 = field_zero w site_zero 9 7 (s.digits e) zero_flag in omega arith

  spare_none : w / 2 ^ 16 ≡ 0
  spare_none = let f : w / 2 ^ 16 % 2 ^ 48 ≡ 0 = field_zero w site_zero 16 48 (s.digits e) zero_spare in omega (arith, s.first)

  denied : T (has (bit_or (2 ^ 64 - 1 - free) used) (w % 64)) → ⊥
  denied = not_in (w % 64) (bit_or (2 ^ 64 - 1 - free) used) (s.subject e)

  in_free : has free (w % 256) ≡ true
  in_free =
      ap (has free) subject_small
      ∙ true_of (has free (w % 64)) (in_set free (w % 64) (omega arith) s.frees (λ u. denied (in_or (2 ^ 64 - 1 - free) used (w % 64) (inl u))))

  not-used : has used (w % 256) ≡ false
  not-used = ap (has used) subject_small ∙ false_of (has used (w % 64)) (λ t. denied (in_or (2 ^ 64 - 1 - free) used (w % 64) (inr t)))

  pub site_right : DecidesSite (site_word w type) free used true
  unfolding ◌and◌ ◌upto◌
  site_right =
      site_decided (site_word w type) free used true false true true true true true s.frees (sym in_free) (sym not-used) refl
      (sym (true_of (leb (w / 2 ^ 8 % 256) 1) ((upto_iff (w / 2 ^ 8 % 256) 1).1 flag_small))) (sym (eq-eqb (w / 2 ^ 16) 0 spare_none)) (sym (true_of _ (s.typed e))) refl

-- ---- the sites of a box

-- after i sites of any box, where no wrong digit was found
pub record SiteWalk (image : List ℕ) (k n free start i bad used : ℕ) : Type 0 where
  pub told : Empty bad → (b : ℕ) → SitesGiven image b k n free start → SiteRun image b n i used

module _ (image : List ℕ) (k n free start : ℕ) where
  pub sites-start : SiteWalk image k n free start 0 0 start
  sites-start = record { told = λ e b g. site-start image b n start g.before }

  pub sites-turn : (i bad used : ℕ) → SiteWalk image k n free start i bad used → i < n
      → (block : List ℕ) → block ≡ block_of image k → (w type x r : ℕ) → w ≡ data_word block (2 * i) → type ≡ data_word block (2 * i + 1) → x ≡ 2 ^ (w % 64)
      → SiteTold free used w type r
      → SiteWalk image k n free start (i + 1) (bit_or bad r) (bit_or used x)
  sites-turn i bad used p l block q w type x r ew et ex s = record {
    told = λ e b g.
        let clean = empty_or_right bad r e in
        site-turn image block b k n i (site_word w type) free used true (p.told (empty_or_left bad r e) b g) g.at l q (site_of block i w type ew et) g.few g.frees
        (site_right free used w type r s clean) (bit_or used x) refl
        (λ m _. has-or used x m
        ∙ ap (λ (t : Bool). has used m or t)
        (ap (λ (x : ℕ). has x m) ex ∙ has_one (w % 64) m ∙ ap (λ (s : ℕ). s is m) (sym (subject_small free used w type r s clean))));
  }

  pub sites_end : (i bad used : ℕ) → SiteWalk image k n free start i bad used → i ≤ n → n ≤ i → SitesTold image k n free start bad used
  unfolding box_misfit
  sites_end i bad used p m l = record {
    tells = λ z b g.
        let run = p.told z b g in
        record {
          sites = λ j h. (passed_iff (site_fits (model_of image) b j) (refusal 6 b j)).0 ((first_iff n _).0 (sym (site_end image b n i used run l)) j h);
          before = subst (λ (j : ℕ). SetOf used (used_before (model_of image) b j)) (le_antisymm m l) run.used_up;
        };
  }

pub ruleset site_walks = (rules, type_right, type_wrong, site_told, sites-start, sites-turn, sites_end)
