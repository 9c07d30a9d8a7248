-- What change request 5 says of old and new answers. Assumes nothing.
use mathlib.Core.Path.{◌≡◌, refl, sym, ap, subst, ◌∙◌}
use mathlib.Core.Bool.{Bool, true, false, not}
use mathlib.Core.List.{List}
use mathlib.Core.Logic.{◌↔◌, ◌⊎◌, inl, inr, ⊎_elim}
use mathlib.Core.Option.{Option}
use Prim.Native.Nat.{ℕ}
use native.Mathlib.Omega.{arith}
use lib.Dec.{T}
use Rattle.definitions.specs.Bounded.{◌and◌, ◌or◌, ◌is◌, ◌isnt◌, ◌below◌}
use Rattle.definitions.specs.Model.{Model, box_at, box_count, kind_of_name, output as op_output, input as op_input}
use Rattle.definitions.specs.Record.{held_number, threads, site, record_of}
use Rattle.definitions.specs.Moves.{Kind, inside, inter, unknown, kind_of_move, Move, Outcome, refused, made, Ends, need, on_made, site_with, found, at, types_share, thread_line, value1, value2, inter_move, inside_act, inter_act, act_as, act}
use Rattle.definitions.specs.Calls.{outcome_number}
use Rattle.definitions.proofs.Bounded.{or_iff, is_iff, of_true}
use Rattle.definitions.proofs.Made.{refused-made}
use Rattle.definitions.proofs.MoveRefusals.{meets, met_as, met, FirstMet, refused_iff}
use Rattle.changes.specs.PrivateFirst.{old_inter_move, old_inter_act, old_act_as, old_act, sends_private_as, sends_private, new_number, new_answer, PrivateFirst}

-- ---- one answer

-- where no private name is sent, an answer is what it was
same : (o : Outcome (List ℕ)) → o ≡ new_answer false o
unfolding new_number ◌and◌
same (refused n) = refl
same (made w) = refl

-- the tests of inter, in the new order and in the old one; q: the name sent is private
orders : (f : Ends → List ℕ) (e : Ends) (q b d l n h : Bool)
    → need b 12 (need d 13 (on_made f (need l 14 (need (not q) 18 (need n 16 (need h 17 (made e)))))))
    ≡ new_answer q (need b 12 (need d 13 (on_made f (need l 14 (need n 16 (need h 17 (need (not q) 18 (made e))))))))
unfolding new_number ◌and◌ ◌or◌ ◌is◌
orders f e false b d l n h = same (need b 12 (need d 13 (on_made f (need l 14 (need n 16 (need h 17 (made e)))))))
orders f e true false d l n h = refl
orders f e true true false l n h = refl
orders f e true true true false n h = refl
orders f e true true true true false h = refl
orders f e true true true true true false = refl
orders f e true true true true true true = refl

-- what a number becomes
becomes : (p : Bool) (n : ℕ) → (new_number p n ≡ n) ⊎ (((n ≡ 16) ⊎ (n ≡ 17)) × (new_number p n ≡ 18))
unfolding new_number ◌and◌
becomes false n = inl refl
becomes true n = go (n is 16 or n is 17) refl
  where
    chosen : Bool → ℕ
    chosen b = elim b [ true ↦ 18 | false ↦ n ]

    go : (b : Bool) → (n is 16 or n is 17) ≡ b → (chosen b ≡ n) ⊎ (((n ≡ 16) ⊎ (n ≡ 17)) × (chosen b ≡ 18))
    go true e = inr (⊎_elim (λ t. inl ((is_iff n 16).0 t)) (λ t. inr ((is_iff n 17).0 t)) ((or_iff (n is 16) (n is 17)).0 (of_true e)), refl)
    go false e = inl refl

-- 16 and 17 become 18 where the name is private, and 18 stays
turned : (n : ℕ) → (n ≡ 16) ⊎ (n ≡ 17) → new_number true n ≡ 18
unfolding new_number ◌and◌ ◌or◌ ◌is◌
turned n h = ⊎_elim (λ e. ap (new_number true) e) (λ e. ap (new_number true) e) h

stays : new_number true 18 ≡ 18
unfolding new_number ◌and◌ ◌or◌ ◌is◌
stays = refl

kept : (n : ℕ) → new_number false n ≡ n
unfolding new_number ◌and◌
kept n = refl

-- what an inter move meets, by the tests that it passes; q: the name sent is private
abbrev causes : Bool → Bool → Bool → Bool → Bool → Bool → ℕ → Bool
causes q b d l n h k = meets (not b) (not d) (not l) false (not n) (n and not h) (not (not q)) false false k

private_met : (q b d l n h : Bool) → T q → T (causes q b d l n h 18)
unfolding meets ◌and◌ ◌or◌ ◌is◌
private_met true b d l n h t = tt
private_met false b d l n h t = absurd t

-- a number of the old order is met
old_met : (f : Ends → List ℕ) (e : Ends) (q b d l n h : Bool) (k : ℕ)
    → need b 12 (need d 13 (on_made f (need l 14 (need n 16 (need h 17 (need (not q) 18 (made e))))))) ≡ refused k
    → T (causes q b d l n h k)
unfolding meets ◌and◌ ◌or◌ ◌is◌
old_met f e q false d l n h k z = subst (λ (i : ℕ). T (causes q false d l n h i)) (ap outcome_number z) tt
old_met f e q true false l n h k z = subst (λ (i : ℕ). T (causes q true false l n h i)) (ap outcome_number z) tt
old_met f e q true true false n h k z = subst (λ (i : ℕ). T (causes q true true false n h i)) (ap outcome_number z) tt
old_met f e q true true true false h k z = subst (λ (i : ℕ). T (causes q true true true false h i)) (ap outcome_number z) tt
old_met f e q true true true true false k z = subst (λ (i : ℕ). T (causes q true true true true false i)) (ap outcome_number z) tt
old_met f e true true true true true true k z = subst (λ (i : ℕ). T (causes true true true true true true i)) (ap outcome_number z) tt
old_met f e false true true true true true k z = absurd (refused-made (sym z))

-- ---- any move

module _ (m : Model) (st : List ℕ) (v : Move) where
  -- the tests of the move as an inter move: the name sent is private; boxes and threads are there; the boxes differ; lines; sites; types
  abbrev sent : Bool
  sent = kind_of_name m.kinds (held_number (value2 m.kinds (box_at m v.box2) (record_of st v.box2) v.thread2)) is 1

  abbrev there : Bool
  there = v.box below box_count m and v.box2 below box_count m and v.thread below threads (record_of st v.box) and v.thread2 below threads (record_of st v.box2)

  abbrev lines : Bool
  lines =
      (thread_line m.kinds (box_at m v.box) (record_of st v.box) v.thread).op is op_input
      and (thread_line m.kinds (box_at m v.box2) (record_of st v.box2) v.thread2).op is op_output

  abbrev site_in : Option ℕ
  site_in = site_with (record_of st v.box) (value1 m.kinds (box_at m v.box) (record_of st v.box) v.thread) 0

  abbrev site_out : Option ℕ
  site_out = site_with (record_of st v.box2) (value1 m.kinds (box_at m v.box2) (record_of st v.box2) v.thread2) 0

  abbrev fit : Bool
  fit = types_share (site (record_of st v.box) (at site_in)) (site (record_of st v.box2) (at site_out))

  by_kind : (k : Kind) → act_as m st k v ≡ new_answer (sends_private_as m st k v) (old_act_as m st k v)
  unfolding act_as old_act_as sends_private_as inter_act old_inter_act inter_move old_inter_move ◌is◌ ◌isnt◌
  by_kind (inside k) = same (inside_act m st k v.box v.thread v.thread2)
  by_kind inter = orders _ _ sent there (v.box isnt v.box2) lines (found site_in and found site_out) fit
  by_kind unknown = same (refused 12)

  -- a move that sends a private name meets 18
  sent_met : (k : Kind) → T (sends_private_as m st k v) → T (met_as m st v k 18)
  unfolding sends_private_as met_as ◌is◌ ◌isnt◌
  sent_met (inside k) t = absurd t
  sent_met inter t = private_met sent there (v.box isnt v.box2) lines (found site_in and found site_out) fit t
  sent_met unknown t = absurd t

  private_18 : T (sends_private m st v) → T (met m st v 18)
  unfolding sends_private met
  private_18 t = sent_met (kind_of_move v.kind) t

  -- the old number is met: where the move is not inter it is the new one
  cause_as : (n : ℕ) (k : Kind) → (act_as m st k v ≡ refused n → FirstMet (met_as m st v k) n) → old_act_as m st k v ≡ refused n → T (met_as m st v k n)
  unfolding act_as old_act_as met_as old_inter_act old_inter_move ◌is◌ ◌isnt◌
  cause_as n (inside k) f e = (f e).is_met
  cause_as n inter f e = old_met _ _ sent there (v.box isnt v.box2) lines (found site_in and found site_out) fit n e
  cause_as n unknown f e = (f e).is_met

  is_cause_lem : (n : ℕ) → old_act m st v ≡ refused n → T (met m st v n)
  unfolding act old_act met
  is_cause_lem n e = cause_as n (kind_of_move v.kind) (refused_iff m st v n).0 e

  answers : act m st v ≡ new_answer (sends_private m st v) (old_act m st v)
  unfolding act old_act sends_private
  answers = by_kind (kind_of_move v.kind)

  -- a refused move: its new number
  refused_as : (n : ℕ) → old_act m st v ≡ refused n → act m st v ≡ refused (new_number (sends_private m st v) n)
  refused_as n e = answers ∙ ap (new_answer (sends_private m st v)) e

  number_as : (n k : ℕ) → old_act m st v ≡ refused n → act m st v ≡ refused k → k ≡ new_number (sends_private m st v) n
  number_as n k e d = ap outcome_number (sym d ∙ refused_as n e)

  exactly : (n : ℕ) → ((n ≡ 16) ⊎ (n ≡ 17)) → old_act m st v ≡ refused n → (act m st v ≡ refused 18) ↔ T (sends_private m st v)
  exactly n h e = go (sends_private m st v) (refused_as n e)
    where
      go : (p : Bool) → act m st v ≡ refused (new_number p n) → (act m st v ≡ refused 18) ↔ T p
      go true q = (λ d. tt, λ t. q ∙ ap refused (turned n h))
      go false q = (
        λ d. let z : n ≡ 18 = sym (kept n) ∙ ap outcome_number (sym q ∙ d) in ⊎_elim (λ y. omega (arith, z, y)) (λ y. omega (arith, z, y)) h,
        λ t. absurd t,
      )

  one_cause_lem : (n : ℕ) → old_act m st v ≡ refused n → ((k : ℕ) → T (met m st v k) → k ≡ n) → act m st v ≡ refused n
  one_cause_lem n e only = go (sends_private m st v) (refused_as n e) (λ t. only 18 (private_18 t))
    where
      go : (p : Bool) → act m st v ≡ refused (new_number p n) → (T p → 18 ≡ n) → act m st v ≡ refused n
      go true q z = q ∙ ap refused (ap (new_number true) (sym (z tt)) ∙ stays ∙ z tt)
      go false q z = q ∙ ap refused (kept n)

  made_alike_lem : (w : List ℕ) → (act m st v ≡ made w) ↔ (old_act m st v ≡ made w)
  made_alike_lem w = go (old_act m st v) refl
    where
      go : (o : Outcome (List ℕ)) → old_act m st v ≡ o → (act m st v ≡ made w) ↔ (old_act m st v ≡ made w)
      go (refused n) e = (λ d. absurd (refused-made (sym (refused_as n e) ∙ d)), λ d. absurd (refused-made (sym e ∙ d)))
      go (made x) e =
          let now = answers ∙ ap (new_answer (sends_private m st v)) e in
          (λ d. e ∙ sym now ∙ d, λ d. now ∙ sym e ∙ d)

pub private_first : (m : Model) (st : List ℕ) (v : Move) → PrivateFirst m st v
private_first m st v = record {
  answers = answers m st v;
  changes = λ n k e d. let z = number_as m st v n k e d in ⊎_elim (λ y. inl (z ∙ y)) (λ y. inr (y.0, z ∙ y.1)) (becomes (sends_private m st v) n);
  exactly = exactly m st v;
  is_cause = is_cause_lem m st v;
  one_cause = one_cause_lem m st v;
  made_alike = made_alike_lem m st v;
}
