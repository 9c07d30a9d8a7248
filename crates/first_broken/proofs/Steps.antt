-- Laws of the checker's steps: one site and one line after another, and one box after another. Assumes nothing.
use mathlib.Core.Path.{◌≡◌, sym, ap, ap₂, subst, ◌∙◌}
use mathlib.Core.Bool.{Bool, true}
use mathlib.Core.List.{List}
use mathlib.Core.Option.{Option, none, some}
use Prim.Native.Nat.{ℕ, ◌≤◌, ◌<◌}
use native.Mathlib.Omega.{arith}
use borrow.Author.Rules.{rules}
use lib.ListN.{length, get_or}
use Rattle.definitions.specs.Bounded.{◌and◌, ◌is◌, ◌below◌, when, or_else, first_below}
use Rattle.definitions.specs.Sets.{has}
use Rattle.definitions.specs.Words.{block_of, count_of}
use Rattle.definitions.specs.Model as paper
use Rattle.definitions.specs.Image.{site_record, boxes_of, kinds_of, sites_block, lines_of, model_of}
use Rattle.definitions.specs.Estimate.{Estimate, estimate_of}
use Rattle.definitions.specs.Clauses as cl
use Rattle.definitions.proofs.Bounded.{is_iff, of_true, each_none}
use Rattle.definitions.proofs.Faults.{when_iff}
use Rattle.definitions.proofs.Clauses.{at_iff}
use Rattle.definitions.proofs.Image.{model_count, model_box, model_kinds, model_names, box_sites, box_lines}
use Rattle.refusals.proofs.Answers.{answers}
use Rattle.records.specs.declared.Site.{Site}
use Rattle.records.specs.declared.Line.{Line}
use Rattle.layouts.specs.declared.Layout.{Layout}
use Rattle.records.specs.Records.{site_in, line_in}
use Rattle.layouts.specs.LayoutOf.{LayoutOf, nowhere}
use Rattle.records.specs.Places.{LinesAt, line_record_at}
use Rattle.records.proofs.PlaceLaws.{line-at}
use Rattle.sharing.proofs.Gather.{nothing_of}
use Rattle.clause_walk.specs.Lines.{LinePasses, ShowsLines}
use Rattle.record_clauses.specs.Known.{NamesFound, LineFound}
use Rattle.first_broken.specs.Known.{Unrefused}
use Rattle.first_broken.proofs.Facts.{box_8, count_60, kind_names, estimate_512, names_boxes, box_names, eps_there, site-there, site-at, site_31, site_62, lines_whole, lines_named, lines_at}

-- ---- clause 2

pub site-is : (model estimate : List ℕ) (k b i : ℕ) (s : Site) (o : Option ℕ) (r : Option cl.Broken) → Unrefused model estimate → b < boxes_of model
    → k ≡ sites_block model b → i < count_of (block_of model k) → site_in s ≡ site_record (block_of model k) i → r ≡ cl.broken_at 2 b i o
    → o ≡ cl.clause2 (estimate_of estimate) b (site_in s) → r ≡ cl.site_broken (model_of model) (estimate_of estimate) b i
unfolding cl.site_broken
site-is model estimate k b i s o r u inside at h es q f =
    q ∙ ap (cl.broken_at 2 b i) (f ∙ ap (cl.clause2 (estimate_of estimate) b) (es ∙ sym (site-at model estimate u b inside k at i h)))

-- a line of the model
pub line-is : (model estimate image : List ℕ) (boxes k b n i : ℕ) (l : Line) (r : Option cl.Broken) → boxes ≡ boxes_of model → image ≡ model
    → LinesAt model b k n → i < n → line_in l ≡ line_record_at image k i → LineFound (estimate_of estimate) boxes b i (line_in l) r
    → r ≡ cl.line_broken (model_of model) (estimate_of estimate) b i
line-is model estimate image boxes k b n i l r eb em at h el q =
    q.same (model_of model) (sym (line-at model b k n at i h) ∙ ap (λ (x : List ℕ). line_record_at x k i) (sym em) ∙ sym el) (model_count model ∙ sym eb)

-- ---- no line of a box breaks a clause

asks_none : (op n c b i : ℕ) (o : Option ℕ) → (op ≡ n → o ≡ none) → when (op is n) (cl.broken_at c b i o) ≡ none
asks_none op n c b i o f = (when_iff (op is n) (cl.broken_at c b i o)).1 (λ t. (at_iff c b i o).1 (f ((is_iff op n).0 t)))

passes_none : (m : paper.Model) (e : Estimate) (b i : ℕ) (l : paper.Line) → paper.line_at (paper.box_at m b) i ≡ l → LinePasses e (paper.box_count m) b l
    → cl.line_broken m e b i ≡ none
unfolding cl.line_broken
passes_none m e b i l at p =
    let x = paper.line_at (paper.box_at m b) i in
    let q : LinePasses e (paper.box_count m) b x = subst (LinePasses e (paper.box_count m) b) (sym at) p in
    let a3 = asks_none x.op paper.restriction 3 b i (cl.clause3 e x) q.three in
    let a4 = asks_none x.op paper.output 4 b i (cl.clause4 e b x) q.four in
    let a5 = asks_none x.op paper.input 5 b i (cl.clause5 e b x) q.five in
    let a6 = asks_none x.op paper.input 6 b i (cl.clause6 e (paper.box_count m) b x) q.six in
    let a7 = asks_none x.op paper.expose 7 b i (cl.clause7 e b x) q.seven in
    let a8 = asks_none x.op paper.hide 8 b i (cl.clause8 e b x) q.eight in
    let a9 = asks_none x.op paper.unhide 9 b i (cl.clause9 e b x) q.nine in
    (λ j. or_else (a3 j) (or_else (a4 j) (or_else (a5 j) (or_else (a6 j) (or_else (a7 j) (or_else (a8 j) (a9 j)))))))

pub shown_none : (model estimate image : List ℕ) (boxes k b n : ℕ) (r : Bool) → boxes ≡ boxes_of model → image ≡ model → LinesAt model b k n
    → ShowsLines image (estimate_of estimate) boxes b k n r → r ≡ true
    → none ≡ first_below (lines_of model b) (cl.line_broken (model_of model) (estimate_of estimate) b)
shown_none model estimate image boxes k b n r eb em at s t =
    rw (sym at.lines) (sym (each_none (cl.line_broken (model_of model) (estimate_of estimate) b) n (λ i h.
    passes_none (model_of model) (estimate_of estimate) b i (line_record_at model k i) (sym (line-at model b k n at i h))
    (subst (λ (x : ℕ). LinePasses (estimate_of estimate) x b (line_record_at model k i)) (eb ∙ sym (model_count model))
    (subst (λ (x : List ℕ). LinePasses (estimate_of estimate) boxes b (line_record_at x k i)) em (s.shows (of_true t) i h))))))

-- below a count, or not, by one that is the same
pub inside_of : (n b count : ℕ) → count ≡ n → b < count → b < n
inside_of n b count e h = rw e at h

pub most_of : (n b count : ℕ) → count ≡ n → count ≤ b → n ≤ b
most_of n b count e h = rw e at h

-- ---- a box: its sites, then its lines

module _ (model : List ℕ) (l : Layout) (h : LayoutOf model l) where
  pub layout_boxes : l.boxes ≡ boxes_of model
  layout_boxes = h.frame.boxes

  module _ (b : ℕ) (inside : b < boxes_of model) where
    pub layout_at : (get_or l.each b nowhere).at ≡ sites_block model b
    layout_at = h.frame.at b inside

    pub layout_sites : (get_or l.each b nowhere).sites ≡ count_of (block_of model (sites_block model b))
    layout_sites = h.frame.sites b inside

    pub layout_lines : (get_or l.each b nowhere).lines ≡ lines_of model b
    layout_lines = h.frame.lines b inside

module _ (model : List ℕ) (e : Estimate) (b : ℕ) (inside : b < boxes_of model) where
  site_run : Option cl.Broken
  site_run = first_below (count_of (block_of model (sites_block model b))) (cl.site_broken (model_of model) e b)

  line_run : Option cl.Broken
  line_run = first_below (lines_of model b) (cl.line_broken (model_of model) e b)

  box_is : cl.box_broken (model_of model) e b ≡ or_else site_run line_run
  unfolding cl.box_broken site_run line_run
  box_is =
      ap₂ (λ (m n : ℕ). or_else (first_below m (cl.site_broken (model_of model) e b)) (first_below n (cl.line_broken (model_of model) e b)))
      (ap paper.site_count (model_box model b inside) ∙ box_sites model b)
      (ap paper.line_count (model_box model b inside) ∙ box_lines model b)

  pub box_stop : (x : cl.Broken) → first_below (count_of (block_of model (sites_block model b))) (cl.site_broken (model_of model) e b) ≡ some x
      → cl.box_broken (model_of model) e b ≡ some x
  unfolding site_run
  box_stop x q = box_is ∙ ap (λ (o : Option cl.Broken). or_else o line_run) q

  pub box_go : (r : Option cl.Broken) → first_below (count_of (block_of model (sites_block model b))) (cl.site_broken (model_of model) e b) ≡ none
      → first_below (lines_of model b) (cl.line_broken (model_of model) e b) ≡ r → cl.box_broken (model_of model) e b ≡ r
  unfolding site_run line_run
  box_go r q k = box_is ∙ ap (λ (o : Option cl.Broken). or_else o line_run) q ∙ k

-- ---- names, then boxes

module _ (model : List ℕ) (l : Layout) (h : LayoutOf model l) (e : Estimate) (few : l.names ≤ 60) (f : Option cl.Broken) (ef : NamesFound e l.kinds.free f) where
  free_in : (n : ℕ) → n < 64 → has l.kinds.free n ≡ paper.is_free (model_of model).kinds n
  free_in n k =
      h.frame.free n k ∙ ap (λ (c : ℕ). n below c and paper.kind_of_name (kinds_of model) n is 0) (sym (model_names model))
      ∙ ap (λ (x : List ℕ). paper.is_free x n) (sym (model_kinds model))

  all_is : cl.first_broken (model_of model) e ≡ or_else f (first_below (boxes_of model) (cl.box_broken (model_of model) e))
  unfolding cl.first_broken
  all_is =
      sym (ap₂ (λ (o : Option cl.Broken) (n : ℕ). or_else o (first_below n (cl.box_broken (model_of model) e)))
      (ef.same (model_of model) (omega (arith, few, h.frame.names, ap length (model_kinds model) ∙ model_names model)) free_in)
      (sym (model_count model)))

pub all_stop : (model : List ℕ) (l : Layout) (e : Estimate) (x : cl.Broken) → LayoutOf model l → l.names ≤ 60 → NamesFound e l.kinds.free (some x)
    → some x ≡ cl.first_broken (model_of model) e
all_stop model l e x h few f = sym (all_is model l h e few (some x) f)

pub all_go : (model : List ℕ) (l : Layout) (e : Estimate) (r : Option cl.Broken) → LayoutOf model l → l.names ≤ 60 → NamesFound e l.kinds.free none
    → r ≡ first_below (boxes_of model) (cl.box_broken (model_of model) e) → r ≡ cl.first_broken (model_of model) e
all_go model l e r h few f q = q ∙ sym (all_is model l h e few none f)

pub ruleset sites = (rules, eps_there, site-there, site_31, site_62, site-is)

pub ruleset firsts = (answers, box_8, layout_boxes, layout_sites, inside_of, most_of)

pub ruleset named = (rules, box_8, layout_boxes, layout_at, layout_lines, inside_of, lines_whole, lines_named, lines_at)

pub ruleset walks = (answers, layout_boxes, inside_of, nothing_of, shown_none)

pub ruleset boxes = (rules, box_stop, box_go)

pub ruleset finds = (rules, count_60, kind_names, estimate_512, layout_boxes, names_boxes, all_go)
