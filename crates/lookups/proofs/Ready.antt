-- What is known of a box record that is in order, in a model that is read. Assumes nothing.
use mathlib.Core.Path.{◌≡◌, ap, subst, sym, ◌∙◌}
use mathlib.Core.Logic.{∥∥₁_elim}
use native.Mathlib.Bridge.{le_prop}
use native.Mathlib.Nat.{ℕ_set}
use mathlib.Core.List.{List}
use mathlib.Core.Option.{none}
use Prim.Native.Nat.{ℕ, ◌+◌, ◌*◌, ◌/◌, ◌%◌, ◌≤◌, ◌<◌}
use native.Mathlib.Omega.{arith}
use native.Mathlib.Decide.{ℕ_discrete}
use lib.ListN.{length, get_or}
use Rattle.definitions.specs.Words.{block_of}
use Rattle.definitions.specs.Model.{Line, Box, Model, box_at, line_at, line_count, box_count}
use Rattle.definitions.specs.Image.{line_record, name_count, boxes_of, sites_block, lines_of, box_of_image, model_of}
use Rattle.definitions.specs.ReadModel.{read_model}
use Rattle.definitions.specs.Record.{threads, sites, thread, line}
use Rattle.definitions.specs.Moves.{value_in, thread_line, value1, value2}
use Rattle.definitions.proofs.Image.{model_count, model_box, model_kinds, model_names, box_lines, box_line}
use Rattle.definitions.proofs.Valid.{Valid, ValidLine}
use Rattle.definitions.proofs.ReadModel.{Blocks, read_iff, valid_image, lines_there}
use Rattle.definitions.proofs.StateRules.{thread_iff, RecordFits, record_iff}
use Rattle.layouts.specs.LayoutOf.{nowhere}
use Rattle.model.specs.declared.ReadModel.{ReadModel}
use Rattle.records.specs.Records.{line_in}
use Rattle.lookups.specs.declared.ReadyThread.{ReadyThread}
use Rattle.lookups.specs.Ready.{kinds_in, BoxReady}
use Rattle.lookups.specs.Threads.{subject_of, sent_of}

-- names of a model that is read
pub read_blocks : (image : List ℕ) → read_model image ≡ none → Blocks image
read_blocks image e = ((read_iff image).0 e).blocks

pub read_head : (image : List ℕ) → read_model image ≡ none → 512 ≤ length image
read_head image e = let h = (read_blocks image e).head.headed.there in omega arith

pub read_names : (image : List ℕ) (n : ℕ) → read_model image ≡ none → n < name_count image → n < 60
read_names image n e h = omega (arith, (read_blocks image e).head.names)

pub read_boxes : (image : List ℕ) (b : ℕ) → read_model image ≡ none → b < boxes_of image → b < 8
read_boxes image b e h = omega (arith, (read_blocks image e).head.boxes)

-- a name that is listed in the model is one of the image's
pub listed_name : (image : List ℕ) (n : ℕ) → n < length (model_of image).kinds → n < name_count image
listed_name image n h = rw (← model_names image, ← model_kinds image) h

-- the first name of every line from restriction on is listed
pub first_of : (m : Model) (l : Line) → ValidLine m l → 3 ≤ l.op → l.name1 < length m.kinds
first_of m l v h = pick (ℕ_discrete l.op 3) (ℕ_discrete l.op 4) (ℕ_discrete l.op 5) (ℕ_discrete l.op 6) (ℕ_discrete l.op 7)
  where
    pick : Dec (l.op ≡ 3) → Dec (l.op ≡ 4) → Dec (l.op ≡ 5) → Dec (l.op ≡ 6) → Dec (l.op ≡ 7) → l.name1 < length m.kinds
    pick (yes e) b c d f = v.restrict_listed e
    pick (no a) (yes e) c d f = v.output_listed e
    pick (no a) (no b) (yes e) d f = v.input_listed e
    pick (no a) (no b) (no c) (yes e) f = v.expose_listed e
    pick (no a) (no b) (no c) (no d) (yes e) = v.hide_listed e
    pick (no a) (no b) (no c) (no d) (no f) = v.unhide_listed (omega (arith, v.known))

module _ {m : ReadModel} {b : ℕ} {r : List ℕ} (k : BoxReady m b r) where
  -- what the record says under its last stamps, for a fact that does not name them
  pub open_ready : {P : Type 0} → IsProp P → ((last : ℕ → ℕ) → RecordFits (model_of m.image.now) last (box_at (model_of m.image.now) b) r → P) → P
  open_ready q f = ∥∥₁_elim k.fits q (λ x. f x.last ((record_iff (model_of m.image.now) x.last (box_at (model_of m.image.now) b) r).0 x.fits))

  pub ready_valid : Valid (model_of m.image.now)
  ready_valid = valid_image m.image.now m.read

  pub ready_inside : b < box_count (model_of m.image.now)
  ready_inside = rw (model_count m.image.now) k.inside

  pub ready_box : b < 8
  ready_box = read_boxes m.image.now b m.read k.inside

  pub ready_length : length r ≡ 1139
  ready_length = open_ready (ℕ_set _ _) (λ last f. f.size)

  pub ready_sites : sites r ≤ 16
  ready_sites = open_ready le_prop (λ last f. f.sites_fit.most)

  pub ready_threads : threads r ≤ 16
  ready_threads = open_ready le_prop (λ last f. f.threads_fit.most)

  pub ready_thread : (t : ℕ) → t < threads r → t < 16
  ready_thread t h = omega (arith, ready_threads)

  same_box : box_at (model_of m.image.now) b ≡ box_of_image m.image.now b
  same_box = model_box m.image.now b k.inside

  module _ (t : ℕ) (h : t < threads r) where
    pub ready_stands : line (thread r t) < line_count (box_at (model_of m.image.now) b)
    ready_stands =
        open_ready le_prop
        (λ last f. ((thread_iff (model_of m.image.now) last (box_at (model_of m.image.now) b) (thread r t)).0 (f.threads_fit.live t h)).stands)

    below : line (thread r t) < lines_of m.image.now b
    below = rw (same_box, box_lines m.image.now b) at ready_stands

    module _ (p i : ℕ) (e : p ≡ (get_or m.layout.each b nowhere).at) (d : i ≡ line (thread r t)) where
      at : p ≡ sites_block m.image.now b
      at = e ∙ m.of.frame.at b k.inside

      pub line-there : 512 * (p + 1 + i / 31 + 1) ≤ length m.image.now
      line-there = rw (at, d) (lines_there m.image.now (read_blocks m.image.now m.read) b k.inside (line (thread r t)) below)

      pub line-found : (l : Line) → l ≡ line_record (block_of m.image.now (p + 1 + i / 31)) (i % 31)
          → l ≡ thread_line (model_of m.image.now).kinds (box_at (model_of m.image.now) b) r t
      unfolding thread_line
      line-found l q =
          q ∙ ap (λ (j : ℕ). line_record (block_of m.image.now (j + 1 + i / 31)) (i % 31)) at
          ∙ ap (λ (j : ℕ). line_record (block_of m.image.now (sites_block m.image.now b + 1 + j / 31)) (j % 31)) d
          ∙ sym (ap (λ (x : Box). line_at x (line (thread r t))) same_box ∙ box_line m.image.now b (line (thread r t)) below)

-- ---- a thread with its line: the names of the line are listed

module _ (y : ReadyThread) where
  pub line_valid : ValidLine (model_of y.of.now.model.now.image.now) (line_in y.line)
  unfolding thread_line
  line_valid =
      subst (ValidLine (model_of y.of.now.model.now.image.now)) (sym y.stands)
      (((ready_valid y.of.now.ready).box y.of.now.b (ready_inside y.of.now.ready)).line (line (thread y.of.now.r.now y.t)) (ready_stands y.of.now.ready y.t y.live))

  pub thread-slot : y.t < 16
  thread-slot = ready_thread y.of.now.ready y.t y.live

  pub first_listed : 3 ≤ y.line.op → y.line.name1.0 < name_count y.of.now.model.now.image.now
  first_listed h = listed_name y.of.now.model.now.image.now y.line.name1.0 (first_of (model_of y.of.now.model.now.image.now) (line_in y.line) line_valid h)

  pub sent_listed : y.line.op ≡ 4 → y.line.name2.0 < name_count y.of.now.model.now.image.now
  sent_listed h = listed_name y.of.now.model.now.image.now y.line.name2.0 (line_valid.sent_listed h)

  pub subject_is : (v : ℕ) → v ≡ value_in (kinds_in y.of.now.model.now) (thread y.of.now.r.now y.t) y.line.name1.0
      → v ≡ subject_of y
  unfolding value1
  subject_is v e = e ∙ ap (λ (l : Line). value_in (kinds_in y.of.now.model.now) (thread y.of.now.r.now y.t) l.name1) y.stands

  pub sent_is : (v : ℕ) → v ≡ value_in (kinds_in y.of.now.model.now) (thread y.of.now.r.now y.t) y.line.name2.0
      → v ≡ sent_of y
  unfolding value2
  sent_is v e = e ∙ ap (λ (l : Line). value_in (kinds_in y.of.now.model.now) (thread y.of.now.r.now y.t) l.name2) y.stands
