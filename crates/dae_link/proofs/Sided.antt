-- The code of a stream is a side of an image.
use Rattle.std.proofs.Common.{◌≡◌, ℕ, ◌+◌, ◌-◌, ◌*◌, ◌≤◌, ◌<◌, ◌^◌, List, ◌∷◌, ◌++◌, length, map, refl, ap, sym, ◌∙◌, subst, arith, append_assoc, length-append, [], Bool}
use Rattle.std.proofs.lemmas.List.{length-map, map-append}
use Rattle.std.specs.Prelude.{Option, slice_get, if◌then◌else◌}
use Rattle.std.specs.List.{AllByRecursion}
use Rattle.std.proofs.Math.Path.{fun_ext}
use Rattle.dae_base.specs.declared.Side.{Side}
use Rattle.dae_base.specs.declared.Side.TheVariants.{A, E}
use Rattle.dae_encode.specs.declared.Inst.{Inst}
use Rattle.dae_encode.specs.Spelling.{InRange, encoded}
use Rattle.dae_machine.specs.Machine.{Setup, code}
use Rattle.dae_ir.specs.Form.{Program}
use Rattle.dae_ir.specs.Programs.{side}
use Rattle.dae_ir.specs.Streams.{Actions, actions_of}
use Rattle.dae_ir.specs.declared.stream.Stream.{Stream}
use Rattle.dae_ir.specs.declared.stream.StreamFunction.{StreamFunction}
use Rattle.dae_select_walks.specs.Homes.{IsHome, frame_words, home_among}
use Rattle.dae_select_walks.specs.Layout.{CodeAt}
use Rattle.dae_select_walks.specs.Live.{nowhere}
use Rattle.dae_select_walks.specs.Facts.{unknown}
use Rattle.dae_select_walks.specs.Agrees.{Plan}
use Rattle.dae_select_walks.proofs.LawsOfWalks.{number_home}
use Rattle.dae_select_walks.specs.declared.Home.{Home}
use Rattle.dae_select_blocks.specs.Blocks.{number_code, residents_code, enter_code}
use Rattle.dae_select_walks.specs.declared.VariableStanding.TheVariants.{Settled}
use Rattle.dae_select_blocks.specs.Code.{entry_code, code_of, function_code, start_code, finish_code}
use Rattle.dae_select_blocks.specs.Sizes.{is_short}
use Rattle.dae_select_blocks.specs.Fits.{Fits}
use Rattle.dae_select_blocks.specs.Wanted.{IsPlanOf, IsLinked}
use Rattle.dae_select_blocks.specs.Laws.{opened_with}
use Rattle.dae_select_blocks.proofs.LawsOfBlocks.{words_are_code, fit_append, function_fits, start_fits, finish_fits, code_take, code_drop, opening_short}
use Rattle.dae_select_values.specs.Tables.{IsNear}
use Rattle.dae_select_values.specs.Sides.{is_a}
use Rattle.dae_select_calls.specs.Layouts.{homes_at, variables_at, entry_at, start_at, frame_at, leaf_at, frameless_at, spares_at, plan_of, variables_of, AreSmall}
use Rattle.dae_select.specs.declared.functions.FunctionCode.{FunctionCode}
use Rattle.dae_select_calls.specs.declared.layouts.FunctionLayout.{FunctionLayout}
use Rattle.dae_select_calls.specs.declared.layouts.Layouts.{Layouts}
use Rattle.dae_link_faithful.specs.Made.{IsSide, HasCode, HasStart, setting_of}
use Rattle.dae_link.specs.LeafCodes.{IsLeafCode, AreLeafCodes, leaf_code_at}
use Rattle.dae_link.specs.Settled.{AreUnplaced}
use Rattle.dae_link.specs.Placed.{functions_code, opening_code, whole_code, placed}
use Rattle.dae_link.specs.Sides.{HasLimits, IsCodeOf, IsReached, body_in, parameters_in, frame_in, at_places, code_at, end_of}
use Rattle.dae_link.specs.Sizes.{most_words}
use Rattle.dae_link.proofs.Same.{both_long, enter_same, at_words, function_long, kept_same}
use Rattle.dae_link.proofs.Standing.{placed_long, placed_same, start_behind, functions_long, ends_within, entries_within, stands_there}
use Rattle.dae_link.proofs.Sizes.{functions_length}
use Rattle.dae_link.proofs.Residing.{residents_few, residents_within, residents_apart, among_is_home, among_no_slot}
use Rattle.dae_link.proofs.Looked.{zip_long, layout_at, IsLayoutAt, each_home, is_near, is_few, is_first, same_frame, frame_within, right_at, parameters_at, apart_at, calls_at, frameless_is_leaf, frameless_in_registers, spares_as_leaf, spares_apart}

pub same_side : (s : Side) → side (is_a s) ≡ s
same_side A = refl
same_side E = refl

module _ (stream : Stream) (old : Layouts) (unplaced : AreUnplaced stream old) where
  abbrev P : Plan
  P = plan_of old

  abbrev variables : ℕ → ℕ
  variables = variables_of old

  abbrev fs : List StreamFunction
  fs = stream.functions

  abbrev first : ℕ
  first = length (opening_code P stream.main stream.frames)

  abbrev news : List FunctionLayout
  news = placed P variables first 0 fs old.functions

  long : length old.functions ≡ length fs
  long = zip_long fs old.functions unplaced.functions

  at : (g : ℕ) → IsLayoutAt (slice_get fs g) (slice_get old.functions g)
  at g = layout_at fs old.functions unplaced.functions g

  few_residents : length old.residents ≤ 3
  few_residents = let few = residents_few 27 old.residents in let brief = unplaced.residents.brief in omega arith

  few_variables : (f : ℕ) → variables f < 2 ^ 26
  few_variables f = is_few (slice_get fs f) (slice_get old.functions f) (at f)

  pub good : (f v : ℕ) → IsHome (variables f) (P.home f v)
  good f v = among_is_home (variables f) (homes_at (slice_get old.functions f)) old.residents few_residents (each_home (slice_get fs f) (slice_get old.functions f) (at f)) v

  near_frames : (f : ℕ) → P.words f < 2 ^ 26
  near_frames f = let w = frame_within old.largest old.functions unplaced.frames unplaced.least f in let m = unplaced.most in omega arith

  pub small_unplaced : AreSmall old
  small_unplaced = record {
    homes = (λ f v. is_near (variables f) (P.home f v) (good f v) (is_few (slice_get fs f) (slice_get old.functions f) (at f)));
    words = near_frames;
    entries = (λ f. is_first (slice_get fs f) (slice_get old.functions f) (at f));
  }

  -- the numbers that stay in registers take no more than functions leave
  brief_residents : length (residents_code 27 old.residents) ≤ 3 * length fs
  brief_residents = let within = residents_within old.functions old.residents unplaced.residents.brief unplaced.residents.free in let same = long in omega arith

  pub first_low : first ≤ 8 + length (residents_code 27 old.residents)
  first_low =
      let s = opening_short P stream.main stream.frames in
      let l = length-append (start_code P stream.main stream.frames) (finish_code P.by_a) in
      omega arith

  -- ---- the plan with the places

  abbrev Q : Plan
  Q = at_words P (λ g. entry_at (slice_get news g)) (λ g. start_at (slice_get news g)) (length (start_code P stream.main stream.frames))

  abbrev with_parts : ℕ → (ℕ → ℕ → Home) → (ℕ → ℕ) → (ℕ → ℕ) → (ℕ → Bool) → (ℕ → Bool) → (ℕ → ℕ → Bool) → Plan
  with_parts n home words frame leaf frameless spares = record {
    by_a = P.by_a;
    functions = n;
    home = home;
    entry = Q.entry;
    start = Q.start;
    words = words;
    frame = frame;
    leaf = leaf;
    frameless = frameless;
    spares = spares;
    near = P.near;
    finish = Q.finish;
    largest = P.largest;
    private = P.private;
    limit = P.limit;
    memory = P.memory;
    residents = P.residents;
  }

  pub plan_is : plan_of (at_places stream old) ≡ Q
  plan_is =
      let new = plan_of (at_places stream old) in
      let n : new.functions ≡ P.functions = placed_long P variables fs old.functions first 0 long in
      let home : new.home ≡ P.home = fun_ext (λ g. ap (λ (hs : List Home). home_among hs old.residents) (placed_same P variables homes_at (λ l entry start. refl) fs old.functions first 0 g long)) in
      let words : new.words ≡ P.words = fun_ext (λ g. ap frame_words (placed_same P variables variables_at (λ l entry start. refl) fs old.functions first 0 g long)) in
      let frame : new.frame ≡ P.frame = fun_ext (λ g. placed_same P variables frame_at (λ l entry start. refl) fs old.functions first 0 g long) in
      let leaf : new.leaf ≡ P.leaf = fun_ext (λ g. placed_same P variables leaf_at (λ l entry start. refl) fs old.functions first 0 g long) in
      let frameless : new.frameless ≡ P.frameless = fun_ext (λ g. placed_same P variables frameless_at (λ l entry start. refl) fs old.functions first 0 g long) in
      let spares : new.spares ≡ P.spares = fun_ext (λ g. placed_same P variables spares_at (λ l entry start. refl) fs old.functions first 0 g long) in
      ap (λ (k : ℕ). with_parts k new.home new.words new.frame new.leaf new.frameless new.spares) n
      ∙ ap (λ (h : ℕ → ℕ → Home). with_parts P.functions h new.words new.frame new.leaf new.frameless new.spares) home
      ∙ ap (λ (w : ℕ → ℕ). with_parts P.functions P.home w new.frame new.leaf new.frameless new.spares) words
      ∙ ap (λ (r : ℕ → ℕ). with_parts P.functions P.home P.words r new.leaf new.frameless new.spares) frame
      ∙ ap (λ (b : ℕ → Bool). with_parts P.functions P.home P.words P.frame b new.frameless new.spares) leaf
      ∙ ap (λ (b : ℕ → Bool). with_parts P.functions P.home P.words P.frame P.leaf b new.spares) frameless
      ∙ ap (λ (b : ℕ → ℕ → Bool). with_parts P.functions P.home P.words P.frame P.leaf P.frameless b) spares

  pub variables_are : variables_of (at_places stream old) ≡ variables
  variables_are = fun_ext (λ g. placed_same P variables variables_at (λ l entry start. refl) fs old.functions first 0 g long)

  -- the codes of functions that make no call are those with the places
  pub codes_placed : (codes : List (Option FunctionCode)) → AreLeafCodes old fs codes → AreLeafCodes (at_places stream old) fs codes
  codes_placed codes are g =
      let actions = body_in (slice_get fs g) in let kept = leaf_code_at (slice_get codes g) in
      subst (λ (plan : Plan). IsLeafCode plan (variables_of (at_places stream old)) g actions kept) (sym plan_is)
      (subst (λ (vs : ℕ → ℕ). IsLeafCode Q vs g actions kept) (sym variables_are) (kept_same P Q.entry Q.start Q.finish variables g actions kept (are g)))

  same : (f : ℕ) (code : Actions) → length (function_code Q variables f code) ≡ length (function_code P variables f code)
  same f code = function_long P Q.entry Q.start Q.finish variables f code

  start_same : length (start_code Q stream.main stream.frames) ≡ length (start_code P stream.main stream.frames)
  start_same =
      let begins : List Inst = number_code 3 stream.frames ++ (residents_code 27 old.residents ++ (if P.by_a then number_code 4 (P.memory - 16) else [])) in
      both_long begins begins (enter_code P.near (Q.entry stream.main)) (enter_code P.near (P.entry stream.main)) refl (enter_same P.near (Q.entry stream.main) (P.entry stream.main))

  opening_same : length (opening_code Q stream.main stream.frames) ≡ first
  opening_same = both_long (start_code Q stream.main stream.frames) (start_code P stream.main stream.frames) (finish_code P.by_a) (finish_code P.by_a) start_same refl

  pub whole_long : length (whole_code Q variables stream.main stream.frames fs) ≡ end_of stream old
  whole_long =
      let l = length-append (opening_code Q stream.main stream.frames) (functions_code Q variables 0 fs) in
      let o = opening_same in
      let f = functions_long P variables Q same fs 0 in omega arith

  -- ---- words

  fit : (f : ℕ) (code : Actions) → AllByRecursion InRange (function_code Q variables f code)
  fit f code = function_fits Q variables good f code

  functions_fit : (gs : List StreamFunction) (k : ℕ) → AllByRecursion InRange (functions_code Q variables k gs)
  functions_fit [] k = tt
  functions_fit (g ∷ gs) k = fit_append (function_code Q variables k (actions_of g.body)) (functions_code Q variables (k + 1) gs) (fit k (actions_of g.body)) (functions_fit gs (k + 1))

  pub whole_fits : AllByRecursion InRange (whole_code Q variables stream.main stream.frames fs)
  whole_fits =
      fit_append (opening_code Q stream.main stream.frames) (functions_code Q variables 0 fs)
      (fit_append (start_code Q stream.main stream.frames) (finish_code Q.by_a) (start_fits Q stream.main stream.frames) (finish_fits Q.by_a)) (functions_fit fs 0)

  -- the same as the code by layouts with places
  code_is : code_at stream old ≡ whole_code Q variables stream.main stream.frames fs
  code_is =
      ap (λ (q : Plan). whole_code q (variables_of (at_places stream old)) stream.main stream.frames fs) plan_is
      ∙ ap (λ (vs : ℕ → ℕ). whole_code Q vs stream.main stream.frames fs) variables_are

  pub code_fits : AllByRecursion InRange (code_at stream old)
  code_fits = subst (λ (is : List Inst). AllByRecursion InRange is) (sym code_is) whole_fits

  pub code_long : length (code_at stream old) ≡ end_of stream old
  code_long = ap length code_is ∙ whole_long

  pub code_short : end_of stream old ≤ most_words stream
  code_short = let f = first_low in let b = brief_residents in let c = functions_length P variables fs 0 in omega arith

  module _ (ends : end_of stream old ≤ 2 ^ 25) where
    entry_low : (g : ℕ) → Q.entry g ≤ 2 ^ 25
    entry_low g = let e = entries_within P variables fs old.functions first 0 g in omega (arith, e)

    pub small_placed : AreSmall (at_places stream old)
    small_placed =
        let back = sym plan_is in
        record {
          homes = (λ f v. subst (λ (q : Plan). IsNear (q.home f v)) back (small_unplaced.homes f v));
          words = (λ f. subst (λ (q : Plan). q.words f < 2 ^ 26) back (near_frames f));
          entries = (λ f. subst (λ (q : Plan). q.entry f < 2 ^ 30) back (low f));
        }
      where
        low : (f : ℕ) → Q.entry f < 2 ^ 30
        low f = let l = entry_low f in omega arith

    module _ (limits : HasLimits stream) (reached : IsReached stream old) (p : Program) (setup : Setup) (is_limit : p.limit ≡ stream.calls) (is_frame : (f : ℕ) → p.frame f ≡ frame_in (slice_get fs f)) (is_code : code setup (side Q.by_a) ≡ map encoded (whole_code Q variables stream.main stream.frames fs)) (is_memory : setup.memory ≡ stream.memory) where
      abbrev body : ℕ → Actions
      body f = body_in (slice_get fs f)

      abbrev words : List ℕ
      words = code setup (side Q.by_a)

      abbrev start_words : List Inst
      start_words = start_code Q stream.main stream.frames

      abbrev rest : List Inst
      rest = functions_code Q variables 0 fs

      fits : Fits (setting_of setup Q.by_a) Q variables
      fits = record {
        side = refl;
        memory = is_memory ∙ sym unplaced.memory;
        homes = good;
        words = (λ f. refl);
        largest = (λ f. frame_within old.largest old.functions unplaced.frames unplaced.least f);
        private = unplaced.low;
        common = (let m = unplaced.memory in let l = limits.most in omega arith);
        least = (let m = unplaced.memory in let l = limits.least in omega arith);
        limit = (let m = unplaced.limit in let l = limits.few in omega arith);
        residents = (λ f n. number_home (homes_at (slice_get old.functions f)) old.residents n);
        apart = (λ f v n r l e. let few = few_variables f in residents_apart old.functions old.residents unplaced.residents.free f v n r (omega arith) e);
        few = few_residents;
        small = unplaced.residents.small;
        leaves = (λ f e. frameless_is_leaf (slice_get fs f) (slice_get old.functions f) (at f) e);
        spares = (λ f r e. spares_as_leaf (slice_get old.functions f) r e);
        spared = (λ f v r l e. spares_apart old.residents (slice_get fs f) (slice_get old.functions f) (at f) v r l e);
        frameless = (λ f v i e. among_no_slot (homes_at (slice_get old.functions f)) old.residents (frameless_in_registers (slice_get fs f) (slice_get old.functions f) (at f) e) v i);
      }

      is_plan : IsPlanOf p Q
      is_plan = record {
        limit = is_limit ∙ sym unplaced.limit;
        frame = (λ f. is_frame f ∙ same_frame (slice_get fs f) (slice_get old.functions f) (at f));
      }

      -- each function's code
      there : (g : ℕ) → g < length fs → CodeAt words (Q.entry g) (function_code Q variables g (body g))
      there g lt =
          subst (λ (ws : List ℕ). CodeAt ws (Q.entry g) (function_code Q variables g (body g))) (sym is_code)
          (stands_there P variables Q same fit fs old.functions (opening_code Q stream.main stream.frames) first 0 g g long opening_same lt (omega arith))

      starts : (g : ℕ) → g < length fs → Q.start g ≡ Q.entry g + length (entry_code Q g)
      starts g lt = start_behind P variables fs old.functions first 0 g g long lt (omega arith)

      abbrev own_code : ℕ → List Inst
      own_code g = code_of (is_short (body g)) Q variables g Settled unknown (body g) nowhere 0 0

      end_low : (g : ℕ) → g < length fs → Q.start g + length (own_code g) ≤ 2 ^ 25
      end_low g lt =
          let s = starts g lt in
          let l = length-append (entry_code Q g) (own_code g) in
          let e : Q.entry g + length (function_code Q variables g (body g)) ≤ first + length (functions_code P variables 0 fs) = ends_within P variables Q same fs old.functions first 0 g g long lt (omega arith) in
          omega (arith, ends)

      -- what stands before the functions
      opens_so : words ≡ map encoded start_words ++ (map encoded (finish_code Q.by_a) ++ map encoded rest)
      opens_so =
          is_code ∙ ap (map encoded) (append_assoc start_words (finish_code Q.by_a) rest) ∙ map-append encoded start_words (finish_code Q.by_a ++ rest)
          ∙ ap (λ (ws : List ℕ). map encoded start_words ++ ws) (map-append encoded (finish_code Q.by_a) rest)

      finish_there : CodeAt words Q.finish (finish_code Q.by_a)
      finish_there =
          subst (λ (ws : List ℕ). CodeAt ws Q.finish (finish_code Q.by_a)) (sym opens_so)
          (subst (λ (n : ℕ). CodeAt (map encoded start_words ++ (map encoded (finish_code Q.by_a) ++ map encoded rest)) n (finish_code Q.by_a)) (length-map start_words encoded ∙ start_same)
          (words_are_code (finish_code Q.by_a) (map encoded start_words) (map encoded rest) (finish_fits Q.by_a)))

      start_there : CodeAt words 0 start_words
      start_there =
          subst (λ (ws : List ℕ). CodeAt ws 0 start_words) (sym opens_so)
          (words_are_code start_words [] (map encoded (finish_code Q.by_a) ++ map encoded rest) (start_fits Q stream.main stream.frames))

      linked : IsLinked (setting_of setup Q.by_a) Q
      linked = record {
        entry = (λ g lt. code_take words (Q.entry g) (entry_code Q g) (own_code g) (there g (subst (λ (n : ℕ). g < n) long lt)));
        start = (λ g lt. starts g (subst (λ (n : ℕ). g < n) long lt));
        near = (λ g lt. let e = end_low g (subst (λ (n : ℕ). g < n) long lt) in omega arith);
        close = (λ g lt is. let e = entries_within P variables fs old.functions first 0 g in let r = reached is in omega (arith, e, r));
        finish = finish_there;
        low = (let s = opening_short P stream.main stream.frames in let b = unplaced.residents.brief in omega arith);
      }

      has_code : (f : ℕ) → f < Q.functions → HasCode (setting_of setup Q.by_a) Q variables f (body f)
      has_code f lt =
          let inside : f < length fs = subst (λ (n : ℕ). f < n) long lt in
          record {
            right = right_at old.residents (slice_get fs f) (slice_get old.functions f) (at f);
            leaf = calls_at (slice_get fs f) (slice_get old.functions f) (at f);
            there = subst (λ (n : ℕ). CodeAt words n (own_code f)) (sym (starts f inside)) (code_drop words (Q.entry f) (entry_code Q f) (own_code f) (there f inside));
            small = (let e = end_low f inside in omega arith);
          }

      has_start : HasStart (setting_of setup Q.by_a) Q stream.main stream.frames
      has_start = record {
        first = (let m = unplaced.memory in let l = limits.frames in omega arith);
        deep = (let m = unplaced.limit in let l = limits.some in omega arith);
        room = (let e = unplaced.private in omega arith);
        finish = sym start_same;
        code = start_there;
      }

      pub is_side : IsSide (is_a stream.side) p body (λ f. parameters_in (slice_get fs f)) (length fs) stream.main stream.frames setup (opened_with old.private)
      is_side = record {
        plan = Q;
        variables = variables;
        side = ap is_a unplaced.side;
        count = long;
        fits = fits;
        is_plan = is_plan;
        linked = linked;
        codes = has_code;
        homes = (λ f lt. record {
          apart = apart_at old.residents (slice_get fs f) (slice_get old.functions f) (at f);
          unspared = (λ u r h e. fits.spared f u r (parameters_at (slice_get fs f) (slice_get old.functions f) (at f) u h) e);
          free = (λ u n r h e. fits.apart f u n r (parameters_at (slice_get fs f) (slice_get old.functions f) (at f) u h) e);
        });
        start = has_start;
        opens = refl;
      }

    -- whatever program has the stream
    pub code_made : HasLimits stream → IsReached stream old → IsCodeOf stream (map encoded (code_at stream old)) old.private
    code_made limits reached p body parameters setup has is_code is_memory =
        let bodies : (λ (f : ℕ). body_in (slice_get fs f)) ≡ body = fun_ext (λ f. sym (has.bodies f)) in
        let counts : (λ (f : ℕ). parameters_in (slice_get fs f)) ≡ parameters = fun_ext (λ f. sym (has.counts f)) in
        let same_words : code setup (side Q.by_a) ≡ map encoded (whole_code Q variables stream.main stream.frames fs) = ap (code setup) (ap (λ (s : Side). side (is_a s)) unplaced.side ∙ same_side stream.side) ∙ is_code ∙ ap (map encoded) code_is in
        subst (λ (b : ℕ → Actions). IsSide (is_a stream.side) p b parameters (length fs) stream.main stream.frames setup (opened_with old.private)) bodies
        (subst (λ (n : ℕ → ℕ). IsSide (is_a stream.side) p (λ f. body_in (slice_get fs f)) n (length fs) stream.main stream.frames setup (opened_with old.private)) counts
        (is_side limits reached p setup has.limit has.frame same_words is_memory))
