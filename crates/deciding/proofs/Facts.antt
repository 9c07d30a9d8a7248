-- The names of a line at which a thread stands are listed, and what is sent is a held name in order. Assumes nothing.
use mathlib.Core.Path.{◌≡◌, ap, sym, ◌∙◌}
use mathlib.Core.List.{List}
use Prim.Native.Nat.{ℕ, ◌≤◌, ◌<◌}
use native.Mathlib.Omega.{arith}
use mathlib.Core.Bool.{not}
use lib.Dec.{eqb}
use lib.ListN.{length}
use native.Mathlib.Bridge.{le_prop}
use Rattle.definitions.specs.Bounded.{◌and◌, ◌is◌}
use Rattle.definitions.specs.Model as model
use Rattle.definitions.specs.Model.{Box, box_at, output, input}
use Rattle.definitions.specs.Image.{name_count, model_of}
use Rattle.definitions.specs.Record.{held_number, threads}
use Rattle.definitions.specs.Moves.{thread_line, value1, value2, inter_move}
use Rattle.definitions.specs.Calls.{outcome_number}
use Rattle.isolation.proofs.KeepMoves.{sent_fits}
use Rattle.records.specs.Records.{line_in}
use Rattle.model.specs.declared.ReadModel.{ReadModel}
use Rattle.lookups.specs.declared.ReadyBox.{ReadyBox}
use Rattle.lookups.specs.declared.ReadyThread.{ReadyThread}
use Rattle.lookups.specs.Ready.{kinds_in, box_in}
use Rattle.lookups.proofs.Ready.{read_head, read_names, listed_name, open_ready, ready_valid, ready_inside}
use Rattle.lookups.specs.Threads.{subject_of, sent_of}
use Rattle.deciding.specs.Numbers.{blocked_number, unless, channels_number, inter_number}
use Rattle.deciding.specs.declared.Blocked.{Blocked}
use Rattle.deciding.proofs.Ends.{between_wrong, between_number, inter_self, inter_number_lem}

-- the lines of an input and an output
pub input-names : (n : ℕ) → n ≡ input → 3 ≤ n
input-names n e = omega (arith, e)

pub output-names : (n : ℕ) → n ≡ output → 3 ≤ n
output-names n e = omega (arith, e)

-- the line of a hide or an unhide
pub turn_named : (n op : ℕ) → n ≡ op → 3 ≤ op → 3 ≤ n
turn_named n op e h = omega (arith, e, h)

-- ---- what an inter move sends

module _ (y : ReadyThread) (n v : ℕ) (d : n ≡ held_number v) (e : v ≡ sent_of y) (s : y.line.op ≡ output) where
  pub number_listed : n < name_count y.of.now.model.now.image.now
  number_listed =
      listed_name y.of.now.model.now.image.now n
      (open_ready y.of.now.ready le_prop (λ last f.
      rw (d, e) (sent_fits (model_of y.of.now.model.now.image.now) (ready_valid y.of.now.ready) y.of.now.b (ready_inside y.of.now.ready) last y.of.now.r.now f y.t y.live
      (sym (ap (λ (l : model.Line). l.op) y.stands) ∙ s)).listed))

  pub number_60 : n < 60
  number_60 = read_names y.of.now.model.now.image.now n y.of.now.model.now.read number_listed

pub model_head : (m : ReadModel) → 512 ≤ length m.image.now
model_head m = read_head m.image.now m.read

-- ---- two boxes of one model

module _ (x y : ReadyBox) (e : y.model.now.image.now ≡ x.model.now.image.now) (l k : ReadyThread) (d : l.of.now ≡ x) (f : k.of.now ≡ y) where
  abbrev answer : ℕ
  answer = inter_number (kinds_in x.model.now) (box_in x.model.now x.b) x.r.now (box_in x.model.now y.b) y.r.now x.b l.t y.b k.t

  live : l.t < threads x.r.now
  live = rw d at l.live

  live2 : k.t < threads y.r.now
  live2 = rw f at k.live

  first : line_in l.line ≡ thread_line (kinds_in x.model.now) (box_in x.model.now x.b) x.r.now l.t
  first = l.stands ∙ ap (λ (z : ReadyBox). thread_line (kinds_in z.model.now) (box_in z.model.now z.b) z.r.now l.t) d

  second : line_in k.line ≡ thread_line (kinds_in x.model.now) (box_in x.model.now y.b) y.r.now k.t
  second =
      k.stands ∙ ap (λ (z : ReadyBox). thread_line (kinds_in z.model.now) (box_in z.model.now z.b) z.r.now k.t) f
      ∙ ap (λ (i : List ℕ). thread_line (model_of i).kinds (box_at (model_of i) y.b) y.r.now k.t) e

  pub pair_self : (a : Blocked) → blocked_number a ≡ unless (not (eqb x.b y.b)) 13 → blocked_number a ≡ answer
  pair_self a h = inter_self (kinds_in x.model.now) (box_in x.model.now x.b) x.r.now (box_in x.model.now y.b) y.r.now x.b l.t y.b k.t live live2 a h

  module _ (s : 0 ≡ unless (not (eqb x.b y.b)) 13) where
    other : (a : ℕ) → a ≡ outcome_number (inter_move (kinds_in x.model.now) (box_in x.model.now x.b) x.r.now (box_in x.model.now y.b) y.r.now l.t k.t) → a ≡ answer
    other a h = inter_number_lem (kinds_in x.model.now) (box_in x.model.now x.b) x.r.now (box_in x.model.now y.b) y.r.now x.b l.t y.b k.t live live2 a s h

    pub pair_wrong : (a : Blocked) → blocked_number a ≡ unless (l.line.op is input and k.line.op is output) 14 → blocked_number a ≡ answer
    pair_wrong a h =
        other (blocked_number a)
        (between_wrong (kinds_in x.model.now) (box_in x.model.now x.b) x.r.now (box_in x.model.now y.b) y.r.now l.t k.t l.line k.line first second a h)

    pub pair_number : (a : ℕ) → 0 ≡ unless (l.line.op is input and k.line.op is output) 14
        → a ≡ channels_number (kinds_in k.of.now.model.now) l.of.now.r.now k.of.now.r.now (subject_of l) (subject_of k) (sent_of k)
        → a ≡ answer
    pair_number a z h =
        other a
        (between_number (kinds_in x.model.now) (box_in x.model.now x.b) x.r.now (box_in x.model.now y.b) y.r.now l.t k.t l.line k.line first second a z
        (h
        ∙ ap (λ (w : ReadyBox). channels_number (kinds_in k.of.now.model.now) w.r.now k.of.now.r.now (value1 (kinds_in w.model.now) (box_in w.model.now w.b) w.r.now l.t) (subject_of k) (sent_of k)) d
        ∙ ap (λ (w : ReadyBox). channels_number (kinds_in w.model.now) x.r.now w.r.now (value1 (kinds_in x.model.now) (box_in x.model.now x.b) x.r.now l.t) (value1 (kinds_in w.model.now) (box_in w.model.now w.b) w.r.now k.t) (value2 (kinds_in w.model.now) (box_in w.model.now w.b) w.r.now k.t)) f
        ∙ ap (λ (i : List ℕ). channels_number (model_of i).kinds x.r.now y.r.now (value1 (kinds_in x.model.now) (box_in x.model.now x.b) x.r.now l.t) (value1 (model_of i).kinds (box_at (model_of i) y.b) y.r.now k.t) (value2 (model_of i).kinds (box_at (model_of i) y.b) y.r.now k.t)) e))
