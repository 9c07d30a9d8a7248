-- The moves of a list by an index, as the loop makes them, are the definition's run. Assumes nothing.
use mathlib.Core.Path.{◌≡◌, refl, sym, ap, ap₂, ◌∙◌}
use mathlib.Core.List.{List, [], ◌∷◌}
use mathlib.Core.Option.{Option, none, some}
use Prim.Native.Nat.{ℕ, zero, suc, ◌+◌, ◌-◌, ◌<◌, ◌≤◌}
use native.Mathlib.Omega.{arith}
use borrow.Author.Rules.{rules}
use lib.ListN.{length, get_or, set, length-map, length-set}
use Rattle.definitions.specs.Bounded.{◌or◌, ◌isnt◌}
use Rattle.definitions.specs.Answer.{Refusal}
use Rattle.definitions.specs.Image.{model_of}
use Rattle.definitions.specs.Moves as moves
use Rattle.definitions.specs.Calls.{outcome_number, outcome_words, written, act_all, moves_refusal, run_refusal, run}
use Rattle.definitions.proofs.Calls.{run_iff}
use Rattle.state.specs.Moves.{move_of}
use Rattle.model.specs.declared.ReadModel.{ReadModel}
use Rattle.lookups.specs.Ready.{Ready}

-- a move that is in no list
abbrev pub no_move : moves.Move
no_move = move_of 0 0 0 0 0

module _ (image : List ℕ) where
  -- the words and the answer of one move
  abbrev pub step_s : List ℕ → moves.Move → List ℕ
  step_s s v = outcome_words s (moves.act (model_of image) s v)

  abbrev pub step_a : List ℕ → moves.Move → ℕ
  step_a s v = outcome_number (moves.act (model_of image) s v)

  -- t moves are left, from the i-th
  abbrev pub state_from : List moves.Move → ℕ → ℕ → List ℕ → List ℕ
  state_from ms zero i s = s
  state_from ms (suc t) i s = state_from ms t (suc i) (step_s s (get_or ms i no_move))

  abbrev pub answers_from : List moves.Move → ℕ → ℕ → List ℕ → List ℕ → List ℕ
  answers_from ms zero i s rs = rs
  answers_from ms (suc t) i s rs = answers_from ms t (suc i) (step_s s (get_or ms i no_move)) (set rs i (step_a s (get_or ms i no_move)))

  state_later : (v : moves.Move) (ms : List moves.Move) (t i : ℕ) (s : List ℕ) → state_from (v ∷ ms) t (suc i) s ≡ state_from ms t i s
  state_later v ms zero i s = refl
  state_later v ms (suc t) i s = state_later v ms t (suc i) (step_s s (get_or ms i no_move))

  answers_later : (v : moves.Move) (ms : List moves.Move) (t i : ℕ) (s : List ℕ) (a : ℕ) (rs : List ℕ) → answers_from (v ∷ ms) t (suc i) s (a ∷ rs) ≡ a ∷ answers_from ms t i s rs
  answers_later v ms zero i s a rs = refl
  answers_later v ms (suc t) i s a rs = answers_later v ms t (suc i) (step_s s (get_or ms i no_move)) a (set rs i (step_a s (get_or ms i no_move)))

  state_is : (ms : List moves.Move) (s : List ℕ) → state_from ms (length ms) 0 s ≡ (act_all (model_of image) s ms).words
  unfolding act_all
  state_is [] s = refl
  state_is (v ∷ ms) s = state_later v ms (length ms) 0 (step_s s v) ∙ state_is ms (step_s s v)

  answers_is : (ms : List moves.Move) (s rs : List ℕ) → length rs ≡ length ms → answers_from ms (length ms) 0 s rs ≡ (act_all (model_of image) s ms).answers
  unfolding act_all
  answers_is [] s [] e = refl
  answers_is [] s (a ∷ rs) e = absurd (omega (arith, e))
  answers_is (v ∷ ms) s [] e = absurd (omega (arith, e))
  answers_is (v ∷ ms) s (a ∷ rs) e =
      answers_later v ms (length ms) 0 (step_s s v) (step_a s v) rs ∙ ap {B = List ℕ} (λ l. step_a s v ∷ l) (answers_is ms (step_s s v) rs (omega (arith, e)))

  module _ (ms : List moves.Move) (s₀ rs₀ : List ℕ) where
    -- what the tests say, where they refuse and where they do not
    module _ (n : ℕ) (c : length ms ≡ n) (o : Option Refusal) (b : o ≡ moves_refusal image s₀ (length s₀ isnt 9112 or length rs₀ isnt n)) where
      refusal_is : run_refusal image s₀ ms rs₀ ≡ o
      unfolding run_refusal
      refusal_is = ap (λ (i : ℕ). moves_refusal image s₀ (length s₀ isnt 9112 or length rs₀ isnt i)) c ∙ sym b

      pub begun_answer : o ≡ (run image s₀ ms rs₀).answer
      unfolding run
      begun_answer = sym refusal_is

    -- a run that is refused before its first move: nothing is written
    module _ (n : ℕ) (c : length ms ≡ n) (x : Refusal) (b : some x ≡ moves_refusal image s₀ (length s₀ isnt 9112 or length rs₀ isnt n)) where
      pub refused_words : s₀ ≡ (run image s₀ ms rs₀).words
      unfolding run
      refused_words = sym (ap (λ (o : Option Refusal). written o (act_all (model_of image) s₀ ms).words s₀) (refusal_is n c (some x) b))

      pub refused_answers : rs₀ ≡ (run image s₀ ms rs₀).answers
      unfolding run
      refused_answers = sym (ap (λ (o : Option Refusal). written o (act_all (model_of image) s₀ ms).answers rs₀) (refusal_is n c (some x) b))

    -- i moves are made: the others take the words and the answers to what the definition says
    pub record MovesRun (m : ReadModel) (i : ℕ) (s rs : List ℕ) : Type 0 where
      pub unrefused : run_refusal image s₀ ms rs₀ ≡ none
      pub room : length rs ≡ length ms
      pub of : m.image.now ≡ image
      pub ready : Ready m s
      pub s_is : state_from ms (length ms - i) i s ≡ (run image s₀ ms rs₀).words
      pub rs_is : answers_from ms (length ms - i) i s rs ≡ (run image s₀ ms rs₀).answers

    pub moves_start : (n : ℕ) → length ms ≡ n → (m : ReadModel) → none ≡ moves_refusal image s₀ (length s₀ isnt 9112 or length rs₀ isnt n) → Ready m s₀ → m.image.now ≡ image
        → MovesRun m 0 s₀ rs₀
    unfolding run
    moves_start n c m b k q =
        let none-refused : run_refusal image s₀ ms rs₀ ≡ none = refusal_is n c none b in
        let same : length rs₀ ≡ length ms = ((run_iff image s₀ ms rs₀).0 none-refused).1.0.1 in
        let all : length ms - 0 ≡ length ms = omega arith in
        record {
          unrefused = none-refused;
          room = same;
          of = q;
          ready = k;
          s_is =
              ap (λ (n : ℕ). state_from ms n 0 s₀) all ∙ state_is ms s₀
              ∙ ap (λ (o : Option Refusal). written o (act_all (model_of image) s₀ ms).words s₀) (sym none-refused);
          rs_is =
              ap (λ (n : ℕ). answers_from ms n 0 s₀ rs₀) all ∙ answers_is ms s₀ rs₀ same
              ∙ ap (λ (o : Option Refusal). written o (act_all (model_of image) s₀ ms).answers rs₀) (sym none-refused);
        }

    module _ (m : ReadModel) (i : ℕ) (s rs : List ℕ) (k : MovesRun m i s rs) where
      -- one move more
      module _ (less : i < length ms) (v : moves.Move) (at : get_or ms i no_move ≡ v) (s' rs' : List ℕ)
          (e : s' ≡ outcome_words s (moves.act (model_of m.image.now) s v))
          (d : rs' ≡ set rs i (outcome_number (moves.act (model_of m.image.now) s v))) where
        left : suc (length ms - (i + 1)) ≡ length ms - i
        left = omega arith

        more : i + 1 ≡ suc i
        more = omega arith

        words : s' ≡ step_s s (get_or ms i no_move)
        words = e ∙ ap (λ (l : List ℕ). outcome_words s (moves.act (model_of l) s v)) k.of ∙ ap (step_s s) (sym at)

        answers : rs' ≡ set rs i (step_a s (get_or ms i no_move))
        answers =
            d ∙ ap (λ (l : List ℕ). set rs i (outcome_number (moves.act (model_of l) s v))) k.of
            ∙ ap (λ (u : moves.Move). set rs i (step_a s u)) (sym at)

        pub moves_turn : Ready m s' → MovesRun m (i + 1) s' rs'
        moves_turn q = record {
          unrefused = k.unrefused;
          room = ap length answers ∙ length-set rs i (step_a s (get_or ms i no_move)) ∙ k.room;
          of = k.of;
          ready = q;
          s_is =
              ap (λ (j : ℕ). state_from ms (length ms - (i + 1)) j s') more ∙ ap (state_from ms (length ms - (i + 1)) (suc i)) words
              ∙ ap (λ (u : ℕ). state_from ms u i s) left ∙ k.s_is;
          rs_is =
              ap (λ (j : ℕ). answers_from ms (length ms - (i + 1)) j s' rs') more
              ∙ ap₂ (λ (x y : List ℕ). answers_from ms (length ms - (i + 1)) (suc i) x y) words answers
              ∙ ap (λ (u : ℕ). answers_from ms u i s rs) left ∙ k.rs_is;
        }

      -- all moves are made
      module _ (all : length ms ≤ i) where
        no-more : 0 ≡ length ms - i
        no-more = omega arith

        pub end_words : s ≡ (run image s₀ ms rs₀).words
        end_words = ap (λ (u : ℕ). state_from ms u i s) no-more ∙ k.s_is

        pub end_answers : rs ≡ (run image s₀ ms rs₀).answers
        end_answers = ap (λ (u : ℕ). answers_from ms u i s rs) no-more ∙ k.rs_is

        pub end_answer : none ≡ (run image s₀ ms rs₀).answer
        unfolding run
        end_answer = sym k.unrefused

pub ruleset moves_runs = (rules, length-map, begun_answer, refused_words, refused_answers, end_words, end_answers, end_answer)
