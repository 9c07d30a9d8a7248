-- A line with no wrong digit fits by itself, and what it binds and uses. Assumes nothing.
use mathlib.Core.Path.{◌≡◌, refl, sym, ap, ap₂, ◌∙◌, subst}
use mathlib.Core.Bool.{true, false, not}
use mathlib.Core.List.{List, []}
use mathlib.Core.Logic.{◌≢◌, ◌⊎◌, inl, inr, ⊎_elim}
use Prim.Native.Nat.{ℕ, ◌+◌, ◌-◌, ◌*◌, ◌/◌, ◌%◌, ◌^◌, ◌≤◌, ◌<◌}
use native.Mathlib.Omega.{arith}
use native.Mathlib.Decide.{dec_lt, ℕ_discrete}
use lib.Dec.{T}
use lib.Bits.{bit_and, bit_or}
use lib.ListN.{get_or}
use lib.Pow.{shr-shr}
use Rattle.definitions.specs.Bounded.{◌and◌, ◌or◌, ◌is◌, ◌isnt◌, ◌implies◌, ◌upto◌, all_below}
use Rattle.definitions.specs.Sets.{has, for_each, size}
use Rattle.definitions.specs.Model.{listed, kind_of_name, binds}
use Rattle.definitions.specs.ReadModel.{type_fits, uses_name1, uses_name2, uses_child1, line_fits, uses}
use Rattle.definitions.proofs.Bounded.{tests, and_iff, or_iff, implies_iff, is_iff, isnt_iff, all_iff, of_true, true_of, false_of, not-false}
use Rattle.definitions.proofs.Faults.{not_iff}
use Rattle.definitions.proofs.Sets.{has_one, has-not, has-and, has-or, has-none, and-true, no_member, for_each_iff}
use Rattle.records.specs.NameSets.{SetOf}
use Rattle.record_rules.specs.Rules.{KindsIn, shape_fit, names_fit, bound_fit, expose_fit}
use Rattle.record_rules.proofs.RuleLaws.{line_decided}
use Rattle.line_table.specs.Table.{full, op_table, row}
use Rattle.line_table.specs.LineWords.{line_word, first, second, wrong, bound, used}
use Rattle.line_table.specs.Told.{Empty}
use Rattle.line_table.proofs.Digits.{in_or, in_and, in_set, empty_or_left, empty_or_right, lacks, field_zero}
use Rattle.line_table.proofs.Rows.{below16, base, z_known, z_none, z_nil, z_second, first-none, second_none}

-- every digit of full is 1
all_full : T (all_below 64 (λ j. has full j))
unfolding all_below has ◌and◌
all_full = tt

-- a type that fits holds names of its set alone
type_in : (a s ty : ℕ) → T (type_fits (has a) s ty) → (n : ℕ) → n < 64 → T (has ty n) → T (has a n)
unfolding type_fits
type_in a s ty t n l y =
    let p = ((and_iff (1 upto size ty and size ty upto 8 and for_each ty (has a)) (not (has ty s))).0 t).0 in
    (for_each_iff ty (has a)).0 ((and_iff (1 upto size ty and size ty upto 8) (for_each ty (has a))).0 p).1 n l y

-- a set of one name that shares nothing with z: z lacks the name
pub not_in : (n z : ℕ) → Empty (bit_and (2 ^ n) z) → T (has z n) → ⊥
not_in n z e t = not-false (lacks (2 ^ n) z e n t) (subst T (sym (has_one n n)) ((is_iff n n).1 refl))

-- and where z is all that s lacks, s has it
in_rest : (n s : ℕ) → n < 64 → s < 2 ^ 64 → Empty (bit_and (2 ^ n) (2 ^ 64 - 1 - s)) → T (has s n)
in_rest n s l h e = in_set s n l h (not_in n (2 ^ 64 - 1 - s) e)

-- the only name that stands where all others are denied
only_zero : (n z : ℕ) → n < 64 → Empty (bit_and (2 ^ n) z) → T (all_below 64 (λ j. j isnt 0 implies has z j)) → n ≡ 0
only_zero n z l e t = pick (ℕ_discrete n 0)
  where
    pick : Dec (n ≡ 0) → n ≡ 0
    pick (yes q) = q
    pick (no q) = absurd (not_in n z e ((implies_iff (n isnt 0) (has z n)).0 ((all_iff 64 (λ j. j isnt 0 implies has z j)).0 t n l) ((isnt_iff n 0).1 q)))

-- a field whose upper digits are zero
cut6 : (w k : ℕ) → w / 2 ^ (k + 6) % 2 ^ 2 ≡ 0 → w / 2 ^ k % 256 ≡ w / 2 ^ k % 64
cut6 w k e = let q : w / 2 ^ k / 2 ^ 6 % 2 ^ 2 ≡ 0 = ap (λ (x : ℕ). x % 2 ^ 2) (shr-shr w k 6) ∙ e in go (w / 2 ^ k) q
  where
    go : (y : ℕ) → y / 2 ^ 6 % 2 ^ 2 ≡ 0 → y % 256 ≡ y % 64
    go y q = omega arith

cut7 : (w k : ℕ) → w / 2 ^ (k + 7) % 2 ^ 9 ≡ 0 → w / 2 ^ k % 2 ^ 16 ≡ w / 2 ^ k % 128
cut7 w k e = let q : w / 2 ^ k / 2 ^ 7 % 2 ^ 9 ≡ 0 = ap (λ (x : ℕ). x % 2 ^ 9) (shr-shr w k 7) ∙ e in go (w / 2 ^ k) q
  where
    go : (y : ℕ) → y / 2 ^ 7 % 2 ^ 9 ≡ 0 → y % 2 ^ 16 ≡ y % 128
    go y q = omega arith

-- each of three parts of an empty join is empty
record Three (a b c : ℕ) : Type 0 where
  one : Empty a
  two : Empty b
  three : Empty c

three_of : (a b c : ℕ) → Empty (bit_or (bit_or a b) c) → Three a b c
three_of a b c e =
    let f = empty_or_left (bit_or a b) c e in
    record { one = empty_or_left a b f; two = empty_or_right a b f; three = empty_or_right (bit_or a b) c e }

-- the fields of a line with no wrong digit
pub record Shape (w o : ℕ) : Type 0 where
  pub known : o ≤ 8
  pub op : w % 256 ≡ o
  pub name1 : w / 2 ^ 8 % 256 ≡ w / 2 ^ 8 % 64
  pub name2 : w / 2 ^ 16 % 256 ≡ w / 2 ^ 16 % 64
  pub spare : w / 2 ^ 24 % 256 ≡ 0
  pub child1 : w / 2 ^ 32 % 2 ^ 16 ≡ w / 2 ^ 32 % 128
  pub child2 : w / 2 ^ 48 % 2 ^ 16 ≡ w / 2 ^ 48 % 128
  pub nil : o ≡ 0 → w / 2 ^ 32 % 2 ^ 16 ≡ 0
  pub one : o ≢ 1 → w / 2 ^ 48 % 2 ^ 16 ≡ 0

module _ (a r c e f w : ℕ) (fw : w < 2 ^ 64) where
  abbrev at : ℕ → ℕ → ℕ
  at k o = get_or (op_table a r c e f) (16 * k + o) 0

  -- the operation is known, and each field is within its digits
  shape_known : (o : ℕ) → w % 16 ≡ o → o < 16 → Empty (bit_and w (at 0 o)) → o ≤ 8
  shape_known o q l h = pick (dec_lt 8 o)
    where
      pick : Dec (8 < o) → o ≤ 8
      pick (yes g) = let z : w / 2 ^ 0 % 2 ^ 64 ≡ 0 = field_zero w (at 0 o) 0 64 h (z_none a r c e f o l g) in absurd (omega arith)
      pick (no g) = omega arith

  pub shape_of : (o : ℕ) → w % 16 ≡ o → o < 16 → Empty (bit_and w (at 0 o)) → Shape w o
  unfolding base
  shape_of o q l h =
      let known = shape_known o q l h in
      let t = z_known a r c e f o l known in
      let z = at 0 o in
      let p = (and_iff (all_below 4 (λ j. has z (4 + j)) and all_below 2 (λ j. has z (14 + j)) and all_below 2 (λ j. has z (22 + j)) and all_below 8 (λ j. has z (24 + j)) and all_below 9 (λ j. has z (39 + j))) (all_below 9 (λ j. has z (55 + j)))).0 t in
      let p1 = (and_iff (all_below 4 (λ j. has z (4 + j)) and all_below 2 (λ j. has z (14 + j)) and all_below 2 (λ j. has z (22 + j)) and all_below 8 (λ j. has z (24 + j))) (all_below 9 (λ j. has z (39 + j)))).0 p.0 in
      let p2 = (and_iff (all_below 4 (λ j. has z (4 + j)) and all_below 2 (λ j. has z (14 + j)) and all_below 2 (λ j. has z (22 + j))) (all_below 8 (λ j. has z (24 + j)))).0 p1.0 in
      let p3 = (and_iff (all_below 4 (λ j. has z (4 + j)) and all_below 2 (λ j. has z (14 + j))) (all_below 2 (λ j. has z (22 + j)))).0 p2.0 in
      let p4 = (and_iff (all_below 4 (λ j. has z (4 + j))) (all_below 2 (λ j. has z (14 + j)))).0 p3.0 in
      let f4 : w / 2 ^ 4 % 2 ^ 4 ≡ 0 = field_zero w z 4 4 h p4.0 in
      let f14 : w / 2 ^ 14 % 2 ^ 2 ≡ 0 = field_zero w z 14 2 h p4.1 in
      let f22 : w / 2 ^ 22 % 2 ^ 2 ≡ 0 = field_zero w z 22 2 h p3.1 in
      let f24 : w / 2 ^ 24 % 2 ^ 8 ≡ 0 = field_zero w z 24 8 h p2.1 in
      let f39 : w / 2 ^ 39 % 2 ^ 9 ≡ 0 = field_zero w z 39 9 h p1.1 in
      let f55 : w / 2 ^ 55 % 2 ^ 9 ≡ 0 = field_zero w z 55 9 h p.1 in
      record {
        known = known;
        op = omega (arith, f4, q);
        name1 = cut6 w 8 f14;
        name2 = cut6 w 16 f22;
        spare = f24;
        child1 = cut7 w 32 f39;
        child2 = cut7 w 48 f55;
        nil = λ y. field_zero w z 32 16 h (z_nil a r c e f o l y);
        one = λ y. field_zero w z 48 16 h (z_second a r c e f o l y);
      }

  -- the names, where p and s are sets of one name each
  module _ (kinds : List ℕ) (k : KindsIn kinds a r c e) (fa : a < 2 ^ 64) (fr : r < 2 ^ 64) (fc : c < 2 ^ 64) (fe : e < 2 ^ 64) where
    of_restricted : (n : ℕ) → n < 64 → T (has r n) → T (has a n)
    of_restricted n l t = subst T (sym (k.all.at n l)) ((and_iff (listed kinds n) (kind_of_name kinds n is 1)).0 (subst T (k.restricted.at n l) t)).0

    of_received : (n : ℕ) → n < 64 → T (has c n) → T (has a n)
    of_received n l t = subst T (sym (k.all.at n l)) ((and_iff (listed kinds n) (kind_of_name kinds n is 2)).0 (subst T (k.received.at n l) t)).0

    of_exposed : (n : ℕ) → n < 64 → T (has e n) → T (has a n)
    of_exposed n l t = subst T (sym (k.all.at n l)) ((and_iff (listed kinds n) (kind_of_name kinds n is 3)).0 (subst T (k.exposed.at n l) t)).0

    -- a first or second name that the tables let stand is listed
    first_in : (n : ℕ) → n < 64 → (o : ℕ) → o < 16 → 3 ≤ o → o ≤ 8 → Empty (bit_and (2 ^ n) (at 1 o)) → T (has a n)
    first_in n l = below16 (λ o. 3 ≤ o → o ≤ 8 → Empty (bit_and (2 ^ n) (at 1 o)) → T (has a n))
        (λ x y h. absurd (omega arith)) (λ x y h. absurd (omega arith)) (λ x y h. absurd (omega arith))
        (λ x y h. of_restricted n l (in_rest n r l fr h)) (λ x y h. in_rest n a l fa h) (λ x y h. in_rest n a l fa h)
        (λ x y h. of_exposed n l (in_rest n e l fe h)) (λ x y h. in_rest n a l fa h) (λ x y h. in_rest n a l fa h)
        (λ x y h. absurd (omega arith)) (λ x y h. absurd (omega arith)) (λ x y h. absurd (omega arith)) (λ x y h. absurd (omega arith))
        (λ x y h. absurd (omega arith)) (λ x y h. absurd (omega arith)) (λ x y h. absurd (omega arith))

    second_in : (n : ℕ) → n < 64 → (o : ℕ) → (o ≡ 4) ⊎ (o ≡ 5) → Empty (bit_and (2 ^ n) (at 2 o)) → T (has a n)
    second_in n l o (inl q) h = in_rest n a l fa (subst (λ (o : ℕ). Empty (bit_and (2 ^ n) (at 2 o))) q h)
    second_in n l o (inr q) h = of_received n l (in_rest n c l fc (subst (λ (o : ℕ). Empty (bit_and (2 ^ n) (at 2 o))) q h))

    module _ (ty : ℕ) (fty : ty < 2 ^ 64) (h : Empty (wrong (op_table a r c e f) w)) (none : w % 16 ≢ 6 → Empty ty) (typed : w % 16 ≡ 6 → T (type_fits (has a) (w / 2 ^ 8 % 256) ty)) where
      parts : Three (bit_and w (at 0 (w % 16))) (bit_and (2 ^ (w / 2 ^ 8 % 64)) (at 1 (w % 16))) (bit_and (2 ^ (w / 2 ^ 16 % 64)) (at 2 (w % 16)))
      unfolding wrong row first second
      parts = three_of (bit_and w (at 0 (w % 16))) (bit_and (2 ^ (w / 2 ^ 8 % 64)) (at 1 (w % 16))) (bit_and (2 ^ (w / 2 ^ 16 % 64)) (at 2 (w % 16))) h

      o16 : w % 16 < 16
      o16 = omega arith

      sh : Shape w (w % 16)
      sh = shape_of (w % 16) refl o16 parts.one

      shapes : T (shape_fit (line_word w ty))
      unfolding shape_fit uses_child1
      shapes = simp (tests, not_iff) (((omega (arith, sh.op, sh.known)), sh.spare), ((λ z. sh.nil (stays z (ℕ_discrete (w % 16) 0))), (λ z. sh.one (λ y. z (omega (arith, sh.op))))))
        where
          stays : ((w % 256 ≡ 0 → ⊥) → ⊥) → Dec (w % 16 ≡ 0) → w % 16 ≡ 0
          stays z (yes q) = q
          stays z (no q) = absurd (z (λ y. q (sym sh.op ∙ y)))

      small1 : w / 2 ^ 8 % 64 < 64
      small1 = omega arith

      small2 : w / 2 ^ 16 % 64 < 64
      small2 = omega arith

      names : T (names_fit (has a) (line_word w ty))
      unfolding names_fit uses_name1 uses_name2
      names = simp (tests, not_iff) (
        (
          λ z. subst (λ (n : ℕ). T (has a n)) (sym sh.name1) (first_in (w / 2 ^ 8 % 64) small1 (w % 16) o16 (omega (arith, sh.op)) sh.known parts.two),
          λ z. sh.name1 ∙ only_zero (w / 2 ^ 8 % 64) (at 1 (w % 16)) small1 parts.two (first-none a r c e f (w % 16) o16 (unused z)),
        ),
        (
          λ z. subst (λ (n : ℕ). T (has a n)) (sym sh.name2) (second_in (w / 2 ^ 16 % 64) small2 (w % 16) (two z) parts.three),
          λ z. sh.name2 ∙ only_zero (w / 2 ^ 16 % 64) (at 2 (w % 16)) small2 parts.three (second_none a r c e f (w % 16) o16 (λ q. z (is_parts q)) (λ q. z (five q))),
        ),
      )
        where
          unused : (3 ≤ w % 256 → ⊥) → w % 16 < 3
          unused z = pick (dec_lt (w % 16) 3)
            where
              pick : Dec (w % 16 < 3) → w % 16 < 3
              pick (yes l) = l
              pick (no l) = absurd (z (omega (arith, sh.op)))

          is_parts : w % 16 ≡ 4 → T (w % 256 is 4 or w % 256 is 5)
          is_parts q = (or_iff (w % 256 is 4) (w % 256 is 5)).1 (inl ((is_iff (w % 256) 4).1 (sh.op ∙ q)))

          five : w % 16 ≡ 5 → T (w % 256 is 4 or w % 256 is 5)
          five q = (or_iff (w % 256 is 4) (w % 256 is 5)).1 (inr ((is_iff (w % 256) 5).1 (sh.op ∙ q)))

          two : T (w % 256 is 4 or w % 256 is 5) → (w % 16 ≡ 4) ⊎ (w % 16 ≡ 5)
          two z = ⊎_elim (λ q. inl (sym sh.op ∙ (is_iff (w % 256) 4).0 q)) (λ q. inr (sym sh.op ∙ (is_iff (w % 256) 5).0 q)) ((or_iff (w % 256 is 4) (w % 256 is 5)).0 z)

      bounds : T (bound_fit (has r) (has c) (line_word w ty))
      unfolding bound_fit
      bounds = simp tests (
        λ z. subst (λ (n : ℕ). T (has r n)) (sym sh.name1)
            (in_rest (w / 2 ^ 8 % 64) r small1 fr (subst (λ (o : ℕ). Empty (bit_and (2 ^ (w / 2 ^ 8 % 64)) (at 1 o))) (sym sh.op ∙ z) parts.two)),
        λ z. subst (λ (n : ℕ). T (has c n)) (sym sh.name2)
            (in_rest (w / 2 ^ 16 % 64) c small2 fc (subst (λ (o : ℕ). Empty (bit_and (2 ^ (w / 2 ^ 16 % 64)) (at 2 o))) (sym sh.op ∙ z) parts.three)),
      )

      exposes : T (expose_fit (has a) (has e) (line_word w ty))
      unfolding expose_fit
      exposes = simp tests (
        λ z. (
          subst (λ (n : ℕ). T (has e n)) (sym sh.name1)
              (in_rest (w / 2 ^ 8 % 64) e small1 fe (subst (λ (o : ℕ). Empty (bit_and (2 ^ (w / 2 ^ 8 % 64)) (at 1 o))) (sym sh.op ∙ z) parts.two)),
          typed (sym sh.op ∙ z),
        ),
        λ z. untyped (λ q. z (sh.op ∙ q)),
      )
        where
          untyped : w % 16 ≢ 6 → ty ≡ 0
          untyped z = no_member 64 ty fty (λ n _. (none z).at n)

      -- so the line fits by itself
      pub line_right : T (line_fits kinds (line_word w ty))
      unfolding ◌and◌
      line_right =
          of_true (sym ((line_decided (line_word w ty) a r c e true true true true true true true refl refl refl (sym (true_of _ shapes)) (sym (true_of _ names)) (sym (true_of _ bounds)) (sym (true_of _ exposes)) fa fr fc fe).decides (record { kinds = kinds; boxes = [] }) k))

      pub right_shape : Shape w (w % 16)
      right_shape = sh

      -- each name that the line uses is listed
      pub uses-listed : (n : ℕ) → n < 64 → T (uses (line_word w ty) n) → T (has a n)
      unfolding uses
      uses-listed n l t =
          ⊎_elim (λ u. ⊎_elim one two ((or_iff _ (w % 256 is 4 and w / 2 ^ 16 % 256 is n)).0 u)) three ((or_iff _ (w % 256 is 6 and has ty n)).0 t)
        where
          one : T ((w % 256 is 4 or w % 256 is 5 or w % 256 is 7 or w % 256 is 8) and w / 2 ^ 8 % 256 is n) → T (has a n)
          one u =
              let v = (and_iff (w % 256 is 4 or w % 256 is 5 or w % 256 is 7 or w % 256 is 8) (w / 2 ^ 8 % 256 is n)).0 u in
              subst (λ (n : ℕ). T (has a n)) (sym sh.name1 ∙ (is_iff (w / 2 ^ 8 % 256) n).0 v.1)
              (first_in (w / 2 ^ 8 % 64) small1 (w % 16) o16 (three_up v.0) sh.known parts.two)
            where
              three_up : T (w % 256 is 4 or w % 256 is 5 or w % 256 is 7 or w % 256 is 8) → 3 ≤ w % 16
              three_up g =
                  ⊎_elim (λ g. ⊎_elim (λ g. ⊎_elim (λ g. omega (arith, (is_iff (w % 256) 4).0 g, sh.op)) (λ g. omega (arith, (is_iff (w % 256) 5).0 g, sh.op)) ((or_iff (w % 256 is 4) (w % 256 is 5)).0 g))
                  (λ g. omega (arith, (is_iff (w % 256) 7).0 g, sh.op)) ((or_iff (w % 256 is 4 or w % 256 is 5) (w % 256 is 7)).0 g))
                  (λ g. omega (arith, (is_iff (w % 256) 8).0 g, sh.op)) ((or_iff (w % 256 is 4 or w % 256 is 5 or w % 256 is 7) (w % 256 is 8)).0 g)

          two : T (w % 256 is 4 and w / 2 ^ 16 % 256 is n) → T (has a n)
          two u =
              let v = (and_iff (w % 256 is 4) (w / 2 ^ 16 % 256 is n)).0 u in
              subst (λ (n : ℕ). T (has a n)) (sym sh.name2 ∙ (is_iff (w / 2 ^ 16 % 256) n).0 v.1)
              (second_in (w / 2 ^ 16 % 64) small2 (w % 16) (inl (sym sh.op ∙ (is_iff (w % 256) 4).0 v.0)) parts.three)

          three : T (w % 256 is 6 and has ty n) → T (has a n)
          three u =
              let v = (and_iff (w % 256 is 6) (has ty n)).0 u in
              type_in a (w / 2 ^ 8 % 256) ty (typed (sym sh.op ∙ (is_iff (w % 256) 6).0 v.0)) n l v.1

-- ---- what a line binds and uses

module _ (a r c e f w ty : ℕ) (fw : w < 2 ^ 64) (sh : Shape w (w % 16)) where
  abbrev at' : ℕ → ℕ → ℕ
  at' k o = get_or (op_table a r c e f) (16 * k + o) 0

  -- a set of one name, kept where the table says so
  kept_full : (n m : ℕ) → m < 64 → has (bit_and (2 ^ n) full) m ≡ (n is m)
  unfolding ◌and◌
  kept_full n m l = has-and (2 ^ n) full m ∙ ap₂ ◌and◌ (has_one n m) (true_of (has full m) ((all_iff 64 (λ j. has full j)).0 all_full m l)) ∙ and-true (n is m)

  kept-none : (n m : ℕ) → has (bit_and (2 ^ n) 0) m ≡ false
  kept-none n m = false_of (has (bit_and (2 ^ n) 0) m) (λ t. not-false (has-none m) ((and_iff (has (2 ^ n) m) (has 0 m)).0 (subst T (has-and (2 ^ n) 0 m) t)).1)

  -- by operation: what stands in the tables of what is bound, and what `binds` asks
  bound-row : (p s m : ℕ) → m < 64 → (o : ℕ) → o < 16 → o ≤ 8
      → (has (bit_and (2 ^ p) (at' 5 o)) m or has (bit_and (2 ^ s) (at' 6 o)) m) ≡ (((o is 3 or o is 6) and p is m) or (o is 5 and s is m))
  unfolding ◌is◌ ◌or◌ ◌and◌
  bound-row p s m l = below16 (λ o. o ≤ 8 → (has (bit_and (2 ^ p) (at' 5 o)) m or has (bit_and (2 ^ s) (at' 6 o)) m) ≡ (((o is 3 or o is 6) and p is m) or (o is 5 and s is m)))
      none none none
      (λ y. ap₂ ◌or◌ (kept_full p m l) (kept-none s m)) none
      (λ y. ap₂ ◌or◌ (kept-none p m) (kept_full s m l))
      (λ y. ap₂ ◌or◌ (kept_full p m l) (kept-none s m)) none none
      (λ y. absurd (omega arith)) (λ y. absurd (omega arith)) (λ y. absurd (omega arith)) (λ y. absurd (omega arith)) (λ y. absurd (omega arith)) (λ y. absurd (omega arith)) (λ y. absurd (omega arith))
    where
      none : {o : ℕ} → o ≤ 8 → (has (bit_and (2 ^ p) 0) m or has (bit_and (2 ^ s) 0) m) ≡ false
      none y = ap₂ ◌or◌ (kept-none p m) (kept-none s m)

  -- what the tables say is bound is what the line binds
  pub bound-is : SetOf (bound (op_table a r c e f) w) (binds (line_word w ty))
  unfolding bound row first second binds
  bound-is = record {
    at = λ m l.
        has-or (bit_and (2 ^ (w / 2 ^ 8 % 64)) (at' 5 (w % 16))) (bit_and (2 ^ (w / 2 ^ 16 % 64)) (at' 6 (w % 16))) m
        ∙ bound-row (w / 2 ^ 8 % 64) (w / 2 ^ 16 % 64) m l (w % 16) (omega arith) sh.known
        ∙ fields m;
  }
    where
      fields : (m : ℕ) → (((w % 16 is 3 or w % 16 is 6) and w / 2 ^ 8 % 64 is m) or (w % 16 is 5 and w / 2 ^ 16 % 64 is m)) ≡ (((w % 256 is 3 or w % 256 is 6) and w / 2 ^ 8 % 256 is m) or (w % 256 is 5 and w / 2 ^ 16 % 256 is m))
      fields m = sym (λ i. (((sh.op i is 3 or sh.op i is 6) and sh.name1 i is m) or (sh.op i is 5 and sh.name2 i is m)))

  -- the table of what is used, where the operation uses its first name
  use_row : (o : ℕ) → o < 16 → T (o is 4 or o is 5 or o is 7 or o is 8) → at' 3 o ≡ 2 ^ 64 - 1 - f
  unfolding ◌is◌ ◌or◌
  use_row = below16 (λ o. T (o is 4 or o is 5 or o is 7 or o is 8) → at' 3 o ≡ 2 ^ 64 - 1 - f)
      (λ t. absurd t) (λ t. absurd t) (λ t. absurd t) (λ t. absurd t) (λ t. refl) (λ t. refl) (λ t. absurd t) (λ t. refl) (λ t. refl)
      (λ t. absurd t) (λ t. absurd t) (λ t. absurd t) (λ t. absurd t) (λ t. absurd t) (λ t. absurd t) (λ t. absurd t)

  -- a name that is not free is kept where all but the free names are
  kept_rest : (p n : ℕ) → n < 64 → f < 2 ^ 64 → p ≡ n → has f n ≡ false → T (has (bit_and (2 ^ p) (2 ^ 64 - 1 - f)) n)
  kept_rest p n l ff q e =
      in_and (2 ^ p) (2 ^ 64 - 1 - f) n (subst T (sym (has_one p n)) ((is_iff p n).1 q)) (subst T (sym (has-not 64 f n ff l ∙ ap not e)) tt)

  -- each name that the line uses and that is not free is in the set of what it uses
  pub uses_in : f < 2 ^ 64 → (n : ℕ) → n < 64 → T (uses (line_word w ty) n) → has f n ≡ false → T (has (used (op_table a r c e f) (2 ^ 64 - 1 - f) w ty) n)
  unfolding uses used row first second ◌and◌
  uses_in ff n l t z =
      let x = bit_and (2 ^ (w / 2 ^ 8 % 64)) (at' 3 (w % 16)) in
      let y = bit_and (2 ^ (w / 2 ^ 16 % 64)) (at' 4 (w % 16)) in
      let v = bit_and ty (2 ^ 64 - 1 - f) in
      ⊎_elim (λ u. in_or (bit_or x y) v n (inl (in_or x y n (⊎_elim (λ u. inl (one u)) (λ u. inr (two u)) ((or_iff _ (w % 256 is 4 and w / 2 ^ 16 % 256 is n)).0 u)))))
      (λ u. in_or (bit_or x y) v n (inr (three u))) ((or_iff _ (w % 256 is 6 and has ty n)).0 t)
    where
      one : T ((w % 256 is 4 or w % 256 is 5 or w % 256 is 7 or w % 256 is 8) and w / 2 ^ 8 % 256 is n) → T (has (bit_and (2 ^ (w / 2 ^ 8 % 64)) (at' 3 (w % 16))) n)
      one u =
          let v = (and_iff (w % 256 is 4 or w % 256 is 5 or w % 256 is 7 or w % 256 is 8) (w / 2 ^ 8 % 256 is n)).0 u in
          let g = subst (λ (o : ℕ). T (o is 4 or o is 5 or o is 7 or o is 8)) sh.op v.0 in
          subst (λ (s : ℕ). T (has (bit_and (2 ^ (w / 2 ^ 8 % 64)) s) n)) (sym (use_row (w % 16) (omega arith) g))
          (kept_rest (w / 2 ^ 8 % 64) n l ff (sym sh.name1 ∙ (is_iff (w / 2 ^ 8 % 256) n).0 v.1) z)

      two : T (w % 256 is 4 and w / 2 ^ 16 % 256 is n) → T (has (bit_and (2 ^ (w / 2 ^ 16 % 64)) (at' 4 (w % 16))) n)
      two u =
          let v = (and_iff (w % 256 is 4) (w / 2 ^ 16 % 256 is n)).0 u in
          subst (λ (o : ℕ). T (has (bit_and (2 ^ (w / 2 ^ 16 % 64)) (at' 4 o)) n)) (sym (sym sh.op ∙ (is_iff (w % 256) 4).0 v.0))
          (kept_rest (w / 2 ^ 16 % 64) n l ff (sym sh.name2 ∙ (is_iff (w / 2 ^ 16 % 256) n).0 v.1) z)

      three : T (w % 256 is 6 and has ty n) → T (has (bit_and ty (2 ^ 64 - 1 - f)) n)
      three u =
          let v = (and_iff (w % 256 is 6) (has ty n)).0 u in
          in_and ty (2 ^ 64 - 1 - f) n v.1 (subst T (sym (has-not 64 f n ff l ∙ ap not z)) tt)
