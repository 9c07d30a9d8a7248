-- Laws of a start's loops (words zeroed, a type's names written lowest first, sites and records put one after another) and of the call.
-- Assumes nothing.
use mathlib.Core.Path.{◌≡◌, refl, sym, ap, ap₂, subst, ◌∙◌}
use mathlib.Core.Bool.{not}
use mathlib.Core.List.{List, [], ◌∷◌, ◌++◌, append-nil, map}
use mathlib.Core.Option.{Option, none, some}
use Prim.Native.Nat.{ℕ, suc, ◌+◌, ◌-◌, ◌*◌, ◌^◌, ◌≤◌, ◌<◌, zero-le}
use native.Mathlib.Nat.{le_refl, le_antisymm}
use native.Mathlib.Numerals.{add-one}
use native.Mathlib.Omega.{arith}
use mir.Syntax.{w32, w64}
use mir.Val.{Fits}
use lib.Dec.{eqb, eqb→eq}
use lib.ListN.{length, get_or, take, drop, set, replicate, length-append, length-set, length-drop, take-append-drop}
use lib.Seq.{drop-drop, take-suc-set, drop-set-lt, append_snoc, length-take-le}
use Rattle.definitions.specs.Bounded.{◌isnt◌, some_if, or_else}
use Rattle.definitions.specs.Sets.{members, size}
use Rattle.definitions.specs.Slots.{zeros}
use Rattle.definitions.specs.Words.{block_of}
use Rattle.definitions.specs.Model as paper
use Rattle.definitions.specs.Image.{site_record, model_of}
use Rattle.definitions.specs.ReadModel.{read_model}
use Rattle.definitions.specs.Record.{held, site, put_site, record_of, put_record}
use Rattle.definitions.specs.Start.{type_words, free_held, start_site, start_record, start_state}
use Rattle.definitions.specs.Answer.{Refusal, refusal}
use Rattle.definitions.specs.Calls as calls
use Rattle.definitions.proofs.Faults.{passed_iff}
use Rattle.definitions.proofs.Slots.{length-zeros, drop-zeros}
use Rattle.definitions.proofs.TypeWords.{free_ascending, type_filled}
use Rattle.definitions.proofs.Start.{start-site-length, filled, filled_none, filled-length, filled_past, filled_next, alone_past, alone_next, site_words, site_words_lem, each_site, filled_record, record_words, record_words_lem, each_record, filled_state}
use Rattle.definitions.proofs.Image.{model_count}
use Rattle.definitions.proofs.ReadModel.{valid_image}
use Rattle.sets.specs.Ascending.{LowestOf}
use Rattle.sets.proofs.Walk.{Left, left_start, left_turn, left_in, lowest-below}
use Rattle.sets.proofs.Members.{members-none, members-some, members-first, length-size}
use Rattle.records.specs.Places.{SitesAt}
use Rattle.records.proofs.PlaceLaws.{site-at, site-count}
use Rattle.layouts.specs.declared.Layout.{Layout}
use Rattle.layouts.specs.LayoutOf.{nowhere, LayoutOf}
use Rattle.model.proofs.Models.{unrefused_room, unrefused_sites}
use Rattle.state.proofs.Parts.{first_words, back_first, lent-site, back-site}
use Rattle.start.specs.NamesOnly.{TypeOfNames, SiteOfNames}

-- box b of an image's model
abbrev box_in : List ℕ → ℕ → paper.Box
box_in image b = paper.box_at (model_of image) b

-- ---- the names of a type, lowest first

-- i names are written, and `left` are the others; the words behind are zero
pub record NamesWritten (type left i : ℕ) (x : List ℕ) : Type 0 where
  pub there : Left type left
  pub size : length x ≡ 8
  pub same : take i x ++ map free_held (members left) ≡ map free_held (members type)
  pub clear : drop i x ≡ zeros (8 - i)
  pub room : i + length (members left) ≤ 8

pub names_start : (type : ℕ) (x : List ℕ) → type < 2 ^ 64 → x ≡ zeros 8 → TypeOfNames type → NamesWritten type type 0 x
names_start type x h e k = record {
  there = left_start type h;
  size = ap length e ∙ length-zeros 8;
  same = refl;
  clear = e;
  room = omega (arith, k.few, length-size type);
}

module _ (type left i : ℕ) (x : List ℕ) (w : NamesWritten type left i x) where
  module _ (n t : ℕ) (d : LowestOf left n t) where
    more : left ≡ 0 → ⊥
    more z = absurd (omega (arith, d.some_left))

    pub names_in : i < length x
    names_in = omega (arith, w.size, w.room, members-some left w.there.fit more)

    pub names_60 : TypeOfNames type → n < 60
    names_60 k = k.names.below n (lowest-below left n w.there.fit more d.lowest) (left_in type left n w.there more d.lowest)

    first : members left ≡ n ∷ members t
    first = members-first left t n w.there.fit more d.lowest d.others

    pub names_turn : (v : ℕ) → v ≡ held n 0 → NamesWritten type t (i + 1) (set x i v)
    names_turn v q =
        let l : length (members left) ≡ suc (length (members t)) = ap length first in
        let z : 8 - i ≡ 1 + (8 - (i + 1)) = omega (arith, w.room) in
        record {
          there = left_turn type left t w.there more d.others;
          size = length-set x i v ∙ w.size;
          same =
              ap (λ (k : ℕ). take k (set x i v) ++ map free_held (members t)) (add-one i)
              ∙ ap (λ (y : List ℕ). y ++ map free_held (members t)) (take-suc-set x i v names_in)
              ∙ append_snoc (take i x) v (map free_held (members t))
              ∙ ap (λ (u : ℕ). take i x ++ u ∷ map free_held (members t)) q
              ∙ ap (λ (y : List ℕ). take i x ++ map free_held y) (sym first) ∙ w.same;
          clear =
              drop-set-lt (i + 1) x i v (omega arith) ∙ sym (drop-drop 1 i x) ∙ ap (drop 1) (w.clear ∙ ap zeros z)
              ∙ drop-zeros 1 (1 + (8 - (i + 1))) (omega arith) ∙ ap zeros (let y : 1 + (8 - (i + 1)) - 1 ≡ 8 - (i + 1) = omega arith in y);
          room = omega (arith, w.room);
        }

  pub names_end : left ≡ 0 → x ≡ type_words free_held type
  names_end z =
      let e : take i x ≡ map free_held (members type) =
      sym (append-nil (take i x)) ∙ ap (λ (y : List ℕ). take i x ++ map free_held y) (sym (members-none left z)) ∙ w.same in
      let l : length (map free_held (members type)) ≡ i =
      sym (ap length e) ∙ length-take-le i x (omega (arith, w.size, w.room)) in
      sym (take-append-drop i x) ∙ ap₂ ◌++◌ e (w.clear ∙ ap (λ (k : ℕ). zeros (8 - k)) (sym l))
      ∙ sym (type_filled free_held type (map free_held (members type)) (free_ascending type) (omega (arith, w.room)))

-- ---- a site

-- the words stand behind the subject and the flag; they are zero before the type's names are written
module _ (x : List ℕ) (e : x ≡ zeros 10) where
  site-size : length x ≡ 10
  site-size = ap length e ∙ length-zeros 10

  pub site-first : 0 < length x
  site-first = omega (arith, site-size)

  module _ (v : ℕ) where
    pub site-second : 1 < length (set x 0 v)
    site-second = omega (arith, site-size, length-set x 0 v)

    module _ (f : ℕ) where
      pub site-room : 10 ≤ length (set (set x 0 v) 1 f)
      site-room = omega (arith, site-size, length-set x 0 v, length-set (set x 0 v) 1 f)

      pub site_rest : take 8 (drop 2 (set (set x 0 v) 1 f)) ≡ zeros 8
      unfolding zeros
      site_rest = ap (λ (y : List ℕ). take 8 (drop 2 (set (set y 0 v) 1 f))) e

      pub site-is : (s : paper.Site) (y : List ℕ) → v ≡ held s.subject 0 → f ≡ s.flag → y ≡ type_words free_held s.type
          → take 2 (set (set x 0 v) 1 f) ++ (y ++ drop 8 (drop 2 (set (set x 0 v) 1 f))) ≡ start_site s
      unfolding zeros start_site
      site-is s y p q r =
          ap (λ (z : List ℕ). take 2 (set (set z 0 v) 1 f) ++ (y ++ drop 8 (drop 2 (set (set z 0 v) 1 f)))) e
          ∙ ap (λ (z : List ℕ). v ∷ f ∷ z) (append-nil y) ∙ ap₂ (λ (a b : ℕ). a ∷ b ∷ y) p q
          ∙ ap (λ (z : List ℕ). held s.subject 0 ∷ s.flag ∷ z) r

-- ---- a record, site by site

-- what an image that is not refused says of a box
module _ (image : List ℕ) (layout : Layout) (read : read_model image ≡ none) (h : LayoutOf image layout) (b : ℕ) (q : b < layout.boxes) where
  pub box_scaled : Fits w64 (b * 16)
  box_scaled = record { fits = omega (arith, unrefused_room image layout read h b q) }

  pub count_fits : Fits w32 (get_or layout.each b nowhere).sites
  count_fits = record { fits = omega (arith, (unrefused_sites image layout read h b q).few) }

-- box b has n sites, in block k: the counts are written, and the first i sites
pub record SitesWritten (image : List ℕ) (b k n i : ℕ) (r : List ℕ) : Type 0 where
  pub there : SitesAt image b k n
  pub upto : i ≤ n
  pub same : r ≡ (0 ∷ 1 ∷ n ∷ []) ++ filled 10 16 (site_words (box_in image b)) i ++ zeros 976

module _ (r : List ℕ) (e : r ≡ zeros 1139) where
  pub sites-start : (image : List ℕ) (b k n : ℕ) → SitesAt image b k n → SitesWritten image b k n 0 (set (set r 1 1) 2 n)
  unfolding zeros
  sites-start image b k n h = record {
    there = h;
    upto = zero-le;
    same =
        ap (λ (y : List ℕ). set (set y 1 1) 2 n) e
        ∙ ap (λ (y : List ℕ). (0 ∷ 1 ∷ n ∷ []) ++ y ++ zeros 976) (sym (filled_none 10 16 (site_words (box_in image b))));
  }

module _ (image : List ℕ) (b k n i : ℕ) (r : List ℕ) (w : SitesWritten image b k n i r) where
  sites-length : length r ≡ 1139
  sites-length =
      ap length w.same ∙ length-append ((0 ∷ 1 ∷ n ∷ []) ++ filled 10 16 (site_words (box_in image b)) i) (zeros 976)
      ∙ omega (arith, length-zeros 976, filled-length 10 16 (site_words (box_in image b)) (each_site (box_in image b)) i)

  module _ (l : i < n) where
    pub site_31 : i < 31
    site_31 = omega (arith, w.there.few)

    pub site-clear : take (3 + 10 * i + 10 - (3 + 10 * i)) (drop (3 + 10 * i) r) ≡ zeros 10
    site-clear =
        lent-site r i ∙ ap (λ (y : List ℕ). site y i) w.same
        ∙ filled_past 10 16 (site_words (box_in image b)) (each_site (box_in image b)) i 3 (0 ∷ 1 ∷ n ∷ []) refl (zeros 976) i
        (omega (arith, w.there.few)) (le_refl i)

    module _ (block : List ℕ) (q : block ≡ block_of image k) (s : paper.Site) (e : s ≡ site_record block i) where
      same-site : s ≡ paper.site_at (box_in image b) i
      same-site = e ∙ ap (λ (y : List ℕ). site_record y i) q ∙ site-at image b k n w.there i l

      pub site_names : read_model image ≡ none → SiteOfNames s
      site_names read =
          let valid = valid_image image read in
          let v = (valid.box b (omega (arith, w.there.inside, model_count image))).site i
          (omega (arith, site-count image b k n w.there)) in
          subst SiteOfNames (sym same-site) (record {
            subject = omega (arith, v.listed, valid.names);
            type = record { few = v.type_size.most; names = record { below = λ m a t. omega (arith, v.type_listed m a t, valid.names) } };
          })

      pub sites-turn : (y : List ℕ) → y ≡ start_site s
          → SitesWritten image b k n (i + 1) (take (3 + 10 * i) r ++ (y ++ drop (3 + 10 * i + 10 - (3 + 10 * i)) (drop (3 + 10 * i) r)))
      sites-turn y g = record {
        there = w.there;
        upto = omega arith;
        same =
            back-site r y i (ap length g ∙ start-site-length s)
            ∙ ap₂ (λ (a c : List ℕ). put_site a i c) w.same (g ∙ ap start_site same-site ∙ sym (site_words_lem (box_in image b) i))
            ∙ filled_next 10 16 (site_words (box_in image b)) (each_site (box_in image b)) i 3 (0 ∷ 1 ∷ n ∷ []) refl (zeros 976)
            (omega (arith, w.there.few));
      }

  pub sites_end : n ≤ i → r ≡ start_record (box_in image b)
  sites_end h =
      let e : n ≡ paper.site_count (box_in image b) = site-count image b k n w.there in
      w.same
      ∙ ap₂ (λ (a c : ℕ). (0 ∷ 1 ∷ a ∷ []) ++ filled 10 16 (site_words (box_in image b)) c ++ zeros 976) e (le_antisymm w.upto h ∙ e)
      ∙ filled_record (box_in image b)

-- ---- a state, record by record

-- the model has so many boxes: the first b records are written, and the others are zero
pub record RecordsWritten (image : List ℕ) (boxes b : ℕ) (st : List ℕ) : Type 0 where
  pub most : boxes ≤ 8
  pub count : boxes ≡ paper.box_count (model_of image)
  pub upto : b ≤ boxes
  pub same : st ≡ filled 1139 8 (record_words (model_of image)) b

-- d is the state as it was lent
pub records_start : (image : List ℕ) (layout : Layout) (d st : List ℕ) → read_model image ≡ none → LayoutOf image layout → length d ≡ 9112
    → st ≡ replicate (length d) 0 → RecordsWritten image layout.boxes 0 st
unfolding zeros
records_start image layout d st read h size e = record {
  most = omega (arith, h.frame.boxes, model_count image, (valid_image image read).most_boxes);
  count = h.frame.boxes ∙ sym (model_count image);
  upto = zero-le;
  same = e ∙ ap (λ (n : ℕ). replicate n 0) size ∙ sym (filled_none 1139 8 (record_words (model_of image)));
}

module _ (image : List ℕ) (boxes b : ℕ) (st : List ℕ) (w : RecordsWritten image boxes b st) where
  records_length : length st ≡ 9112
  records_length = ap length w.same ∙ filled-length 1139 8 (record_words (model_of image)) (each_record (model_of image)) b

  module _ (l : b < boxes) where
    pub record_start : 1139 * b ≤ length st
    record_start = omega (arith, w.most, records_length)

    pub record_room : (r : List ℕ) → r ≡ drop (1139 * b) st → 1139 ≤ length r
    record_room r e = omega (arith, w.most, records_length, ap length e, length-drop (1139 * b) st)

    -- the state is split before the record of box b
    pub record_clear : (r back : List ℕ) → r ≡ take 1139 back → back ≡ drop (1139 * b) st → r ≡ zeros 1139
    record_clear r back e q =
        e ∙ ap (take 1139) q ∙ first_words st b ∙ ap (λ (y : List ℕ). record_of y b) w.same
        ∙ alone_past 1139 8 (record_words (model_of image)) (each_record (model_of image)) b b (omega (arith, w.most)) (le_refl b)

    pub records_turn : (front back y : List ℕ) → front ≡ take (1139 * b) st → back ≡ drop (1139 * b) st → y ≡ start_record (box_in image b)
        → RecordsWritten image boxes (b + 1) (front ++ (y ++ drop 1139 back))
    records_turn front back y f g e = let q : y ≡ record_words (model_of image) b = e ∙ sym (record_words_lem (model_of image) b) in record {
      most = w.most;
      count = w.count;
      upto = omega arith;
      same =
          ap₂ (λ (a c : List ℕ). a ++ (y ++ drop 1139 c)) f g ∙ back_first st y b (ap length q ∙ each_record (model_of image) b) ∙ ap₂ (λ (a c : List ℕ). put_record a b c) w.same q
          ∙ alone_next 1139 8 (record_words (model_of image)) (each_record (model_of image)) b (omega (arith, w.most));
    }

  pub records_end : boxes ≤ b → st ≡ start_state (model_of image)
  records_end h =
      w.same ∙ ap (filled 1139 8 (record_words (model_of image))) (le_antisymm w.upto h ∙ w.count) ∙ filled_state (model_of image)

-- ---- the call

module _ (image words : List ℕ) where
  -- the model is refused, or the length, or neither
  pub refused_model : (r : Refusal) → some r ≡ read_model image → some r ≡ (calls.start image words).answer
  unfolding calls.start calls.start_refusal
  refused_model r e = ap (λ (o : Option _). or_else o (some_if (length words isnt 9112) (refusal 10 0 0))) e

  module _ (read : none ≡ read_model image) (o : Option Refusal) (e : o ≡ some_if (not (eqb (length words) 9112)) (refusal 10 0 0)) where
    pub start_answer : o ≡ (calls.start image words).answer
    unfolding calls.start calls.start_refusal ◌isnt◌
    start_answer = e ∙ ap (λ (a : Option _). or_else a (some_if (length words isnt 9112) (refusal 10 0 0))) read

    pub start_room : o ≡ none → length words ≡ 9112
    start_room z = eqb→eq (length words) 9112 ((passed_iff (eqb (length words) 9112) (refusal 10 0 0)).0 (sym e ∙ z))

  pub start_kept : (r : Refusal) → some r ≡ (calls.start image words).answer → words ≡ (calls.start image words).words
  unfolding calls.start
  start_kept r e = ap (λ (o : Option _). calls.written o (start_state (model_of image)) words) e

  pub start_written : (st i : List ℕ) → none ≡ (calls.start image words).answer → i ≡ image → st ≡ start_state (model_of i) → st ≡ (calls.start image words).words
  unfolding calls.start
  start_written st i e z q = q ∙ ap (λ (x : List ℕ). start_state (model_of x)) z ∙ ap (λ (o : Option _). calls.written o (start_state (model_of image)) words) e

pub ruleset names = (names_in, names_start, names_60, names_turn, names_end)

pub ruleset sites = (site-first, site-second, site-room, site_rest, site-is)

pub ruleset records = (box_scaled, unrefused_room, unrefused_sites, count_fits, sites-start, site_31, site-clear, site_names, sites-turn, sites_end)

pub ruleset states = (records_start, record_start, record_room, record_clear, records_turn, records_end)

pub ruleset starts = (refused_model, start_answer, start_room, start_kept, start_written)
