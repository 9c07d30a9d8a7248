-- Change request 5, private before unfit: moves with inter's tests in the old order, and what the request says of old and new answers.
-- Assumes nothing.
use Rattle.std.specs.Prelude.{◌≡◌, Bool, true, false, ◌↔◌, ◌⊎◌, List, ℕ, T}
use Rattle.definitions.specs.Bounded.{◌and◌, ◌or◌, ◌is◌, ◌isnt◌, ◌below◌}
use Rattle.definitions.specs.Model.{Box, Model, box_at, box_count, kind_of_name, output as op_output, input as op_input}
use Rattle.definitions.specs.Record.{held_number, threads, site, put_thread, record_of, put_record}
use Rattle.definitions.specs.Moves.{Kind, inside, inter, unknown, kind_of_move, Move, Outcome, refused, made, Ends, need, on_made, site_with, found, at, types_share, thread_line, onward, onward_with, value1, value2, inside_act, act}
use Rattle.definitions.proofs.MoveRefusals.{met}

-- ---- the old order

-- 9 inter with its tests ascending: 14 wrong line, 16 no site, 17 unfit, 18 private
module _ (kinds : List ℕ) (x : Box) (r : List ℕ) (y : Box) (s : List ℕ) where
  unfoldable pub old_inter_move : ℕ → ℕ → Outcome Ends
  old_inter_move t u =
      let i = site_with r (value1 kinds x r t) 0 in
      let j = site_with s (value1 kinds y s u) 0 in
      let sent = value2 kinds y s u in
      need ((thread_line kinds x r t).op is op_input and (thread_line kinds y s u).op is op_output) 14
      (need (found i and found j) 16
      (need (types_share (site r (at i)) (site s (at j))) 17
      (need (kind_of_name kinds (held_number sent) isnt 1) 18
      (made (record {
        input = put_thread r t (onward_with kinds x r t (thread_line kinds x r t).name2 sent);
        output = put_thread s u (onward kinds y s u);
      })))))

-- a move in a state, as in `Moves` but for inter
module _ (m : Model) (st : List ℕ) where
  unfoldable pub old_inter_act : ℕ → ℕ → ℕ → ℕ → Outcome (List ℕ)
  old_inter_act b t c u =
      need (b below box_count m and c below box_count m and t below threads (record_of st b) and u below threads (record_of st c)) 12
      (need (b isnt c) 13
      (on_made (λ e. put_record (put_record st b e.input) c e.output)
      (old_inter_move m.kinds (box_at m b) (record_of st b) (box_at m c) (record_of st c) t u)))

  unfoldable pub old_act_as : Kind → Move → Outcome (List ℕ)
  old_act_as (inside k) v = inside_act m st k v.box v.thread v.thread2
  old_act_as inter v = old_inter_act v.box v.thread v.box2 v.thread2
  old_act_as unknown v = refused 12

  unfoldable pub old_act : Move → Outcome (List ℕ)
  old_act v = old_act_as (kind_of_move v.kind) v

-- ---- what the request says

-- the move is inter, and the name that it sends is of kind 1
module _ (m : Model) (st : List ℕ) where
  unfoldable pub sends_private_as : Kind → Move → Bool
  sends_private_as (inside k) v = false
  sends_private_as inter v = kind_of_name m.kinds (held_number (value2 m.kinds (box_at m v.box2) (record_of st v.box2) v.thread2)) is 1
  sends_private_as unknown v = false

  unfoldable pub sends_private : Move → Bool
  sends_private v = sends_private_as (kind_of_move v.kind) v

-- an old number, and what it is now: 16 and 17 become 18 where the name sent is of kind 1, and every other stays
unfoldable pub new_number : Bool → ℕ → ℕ
new_number private n = elim (private and (n is 16 or n is 17)) [ true ↦ 18 | false ↦ n ]

-- an old answer, and what it is now: a refused move is refused, and a made one is made, with the same words
abbrev pub new_answer : Bool → Outcome (List ℕ) → Outcome (List ℕ)
new_answer private (refused n) = refused (new_number private n)
new_answer private (made w) = made w

-- what is so of every move in every state; `met m st v n`: the move meets refusal n, each refusal being looked at by itself
pub record PrivateFirst (m : Model) (st : List ℕ) (v : Move) : Type 0 where
  -- the new answer is a function of the old one
  pub answers : act m st v ≡ new_answer (sends_private m st v) (old_act m st v)
  -- a number other than 18 changes only from 16 or 17 to 18, and exactly where the name sent is of kind 1
  pub changes : (n k : ℕ) → old_act m st v ≡ refused n → act m st v ≡ refused k → (k ≡ n) ⊎ (((n ≡ 16) ⊎ (n ≡ 17)) × (k ≡ 18))
  pub exactly : (n : ℕ) → ((n ≡ 16) ⊎ (n ≡ 17)) → old_act m st v ≡ refused n → (act m st v ≡ refused 18) ↔ T (sends_private m st v)
  -- an old number is one that the move meets; it stays where the move meets no other
  pub is_cause : (n : ℕ) → old_act m st v ≡ refused n → T (met m st v n)
  pub one_cause : (n : ℕ) → old_act m st v ≡ refused n → ((k : ℕ) → T (met m st v k) → k ≡ n) → act m st v ≡ refused n
  -- a move is made exactly when it was made, with the same words
  pub made_alike : (w : List ℕ) → (act m st v ≡ made w) ↔ (old_act m st v ≡ made w)
