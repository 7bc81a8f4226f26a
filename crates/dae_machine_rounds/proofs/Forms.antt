-- An image whose code does the pair of a form does the form, with all depths that reach its budget.
use Rattle.std.proofs.Common.{◌<◌, ◌*◌, ◌+◌, ◌-◌, replicate, length, ◌≡◌, ℕ, ◌≤◌, inl, inr, Bool, true, false, List, [], Option, Some, None, refl, ap, sym, ◌∙◌, subst}
use Rattle.std.specs.Prelude.{is_some}
use Rattle.dae_base.specs.declared.Side.{Side}
use Rattle.dae_base.specs.declared.Side.TheVariants.{A, E}
use Rattle.dae_base.specs.declared.Depths.{Depths}
use Rattle.dae_encode.specs.declared.Halt.{Halt}
use Rattle.dae_encode.specs.declared.Halt.TheVariants.{Status, Trap}
use Rattle.dae_encode.specs.declared.Request.TheVariants.{Halted as IsHalted}
use Rattle.dae_encode.specs.Processor.{Processor, request}
use Rattle.dae_image.specs.declared.Image.{Image}
use Rattle.dae_machine.specs.declared.Pick.{Pick}
use Rattle.dae_machine.specs.declared.Pick.TheVariants.{A as MoveA, E as MoveE, Fill, Drain}
use Rattle.dae_machine.specs.Opened.{setup_of, opened}
use Rattle.dae_machine.specs.Machine.{Setup, State, step, Runs, IsFinal}
use Rattle.dae_machine.specs.Ends.{AwaitsMessage, HasRuns, GoesOn}
use Rattle.dae_machine.proofs.LawsOfRuns.{runs_deeper, opened_counted}
use Rattle.dae_machine.proofs.LawsOfRuns.{can_only_end, goes_on}
use Rattle.dae_meaning.specs.Worlds.{World}
use Rattle.dae_meaning.specs.Results.{Result, Over, End, Halted, Trapped, Going, Astray, world_of}
use Rattle.dae_meaning.specs.Variables.{Env}
use Rattle.dae_ir.specs.Form.{Program, deeper}
use Rattle.dae_ir.specs.Classes.{Classes, classes_of}
use Rattle.dae_ir.specs.Rounds.{rounds}
use Rattle.dae_ir.specs.Canonical.{Sides, entered_both}
use Rattle.dae_ir.specs.Programs.{program_of, start, outcome, AreClassesOf, IsPairOf}
use Rattle.dae_ir.specs.declared.form.Ir.{Ir}
use Rattle.dae_ir.specs.declared.stream.Class.{Class}
use Rattle.dae_ir_pair.specs.Budget.{Covers}
use Rattle.dae_ir_pair.specs.Programs.{DoesTheSame, pair_outcome}
use Rattle.dae_ir_pair.specs.Laws.{Agree}
use Rattle.dae_meaning.specs.Alike.{LoadsApart, Apart, AtLeast}
use Rattle.dae_meaning.proofs.Laws.{IsTold, ends_alike}
use Rattle.dae_ir_pair.proofs.Laws.{program_kept}
use Rattle.dae_ir_pair.proofs.Laws.{budget_covers}
use Rattle.dae_ir.specs.Budgets.{IsBudgetOf}
use Rattle.dae_ir.specs.declared.stream.Pair.{Pair}
use Rattle.dae_machine_rounds.specs.Spots.{Ends as Here, point, Spot, spot}
use Rattle.dae_machine_rounds.specs.Sides.{Implements}
use Rattle.dae_base.specs.Budgets.{Reaches}
use Rattle.dae_base.proofs.Laws.{bytes-append, zero_bytes}
use Rattle.dae_machine_rounds.specs.Promises.{Begins, OnlyEnds, EndsAs, Ends, Continues, Tells, DoesForm}
use Rattle.dae_machine_rounds.proofs.Laws.{Counts, IsSound, order_run}
use Rattle.dae_machine.proofs.LawsOfRuns.{memory_length, data_fit}
use Rattle.std.proofs.lemmas.List.Elements.{recursion_from_All}
use Rattle.dae_machine_rounds.proofs.Calls.{body_of}
use Rattle.dae_machine_rounds.proofs.Whole.{ends_as, has_run, onward}

-- ---- a final state is so with any depths

halted_by : (copies : Bool) (side : Side) (words : List ℕ) (size : ℕ) (p : Processor) (o : Option Halt) → p.halt ≡ o → is_some o ≡ true → request copies side words size p ≡ IsHalted
unfolding request
halted_by copies side words size p None e h = absurd (let z : false ≡ true = h in cc)
halted_by copies side words size p (Some x) e h = rw e refl

halted : (copies : Bool) (side : Side) (words : List ℕ) (size : ℕ) (p : Processor) → is_some p.halt ≡ true → request copies side words size p ≡ IsHalted
halted copies side words size p h = halted_by copies side words size p p.halt refl h

final_deeper : (setup : Setup) (d : Depths) (s : State) → IsFinal setup s → IsFinal (record setup { depths = d }) s
final_deeper setup d s f = record { quiet = quiet; a = f.a; e = f.e; sa = f.sa; sd = f.sd } where
  quiet : (p : Pick) → step (record setup { depths = d }) s p ≡ None
  quiet MoveA = rw (halted setup.copies A setup.code_a setup.memory s.a f.a) refl
  quiet MoveE = rw (halted setup.copies E setup.code_e setup.memory s.e f.e) refl
  quiet (Fill side n) = f.quiet (Fill side n)
  quiet Drain = f.quiet Drain

awaits_deeper : (setup : Setup) (d : Depths) (s : State) → AwaitsMessage setup s → AwaitsMessage (record setup { depths = d }) s
awaits_deeper setup d s h = record { word = h.word; inst = h.inst; asks = h.asks; none = h.none }

has_deeper : (setup : Setup) (d : Depths) (s : State) (outputs : ℕ → List ℕ) (n : ℕ) → ((picks : List Pick) (t : State) → Runs setup s picks t → Runs (record setup { depths = d }) s picks t) → HasRuns setup s outputs n → HasRuns (record setup { depths = d }) s outputs n
has_deeper setup d s outputs n deep h = record {
  picks = h.picks;
  state = h.state;
  runs = deep h.picks h.state h.runs;
  moves = elim (h.moves) [ inl m ↦ inl m | inr m ↦ inr (m.0, awaits_deeper setup d h.state m.1) ];
  prints = h.prints;
  bound = h.bound;
  no_more = h.no_more;
}

-- ---- the pair's end is the form's

pub record SameEnd (end : End) (w : World) (s : Result Sides) : Type 0 where
  pub world : World
  pub is : s ≡ Over end world
  pub memory : world.memory ≡ w.memory
  pub printed : world.printed ≡ w.printed
  pub items : world.items ≡ w.items

apart_in_loads : (w u : World) → LoadsApart AtLeast w u → (u.memory ≡ w.memory) × (u.printed ≡ w.printed) × (u.items ≡ w.items)
apart_in_loads w u (Apart v a b l) = (refl, refl, refl)

same_end : (c : Classes) (r : Result Env) (s : Result Sides) (end : End) (w : World) → IsTold end → DoesTheSame c r s → r ≡ Over end w → SameEnd end w s
same_end c r s end w t h e =
    let x = ends_alike (Agree c) (LoadsApart AtLeast) end w r s t h e in
    let y = apart_in_loads w x.0 x.2 in
    record { world = x.0; is = x.1; memory = y.0; printed = y.1; items = y.2 }

-- ---- the opened memory

opened_sound : (ir : Ir) (image : Image) → IsSound (setup_of image image.budget) (start ir (opened image).memory)
opened_sound ir image = record {
  size = memory_length image.content image.memory (data_fit image);
  bytes = bytes-append (replicate 16 0) _ (zero_bytes 16) (bytes-append image.content _ (recursion_from_All (λ (b : ℕ). b < 256) image.content image.fits.content) (zero_bytes (image.memory - (16 + length image.content))));
}

-- ---- the whole

module _ (ir : Ir) (tables : List (List Class)) (cap : ℕ) (image : Image) (most : ℕ) (positive : 1 ≤ most) where
  abbrev p : Program
  p = program_of ir

  abbrev of : ℕ → Classes
  of = classes_of tables

  abbrev setup : Setup
  setup = setup_of image image.budget

  abbrev w : World
  w = start ir (opened image).memory

  -- what the back end owes: code that does the two streams, from its entries on
  module _ (At_a At_e : Spot → Processor → Type 0) (code_a : Implements setup p true (body_of setup p of cap true) most At_a) (code_e : Implements setup p false (body_of setup p of cap false) most At_e)
      (begins_a : Begins setup true most At_a (opened image).a (spot (point (body_of setup p of cap true ir.main) Here) (entered_both (of ir.main) [] []).a (deeper p ir.main w) [])) (begins_e : Begins setup false most At_e (opened image).e (spot (point (body_of setup p of cap false ir.main) Here) (entered_both (of ir.main) [] []).e (deeper p ir.main w) []))
      -- what is known of the form and its pair
      (pair : Pair) (least : AreClassesOf ir tables) (is_pair : IsPairOf ir tables cap pair) (is_budget : IsBudgetOf pair image.budget) (size : image.memory ≡ ir.memory) where
    covers : (f : ℕ) → Covers (of f) image.budget (rounds (of f) cap true (p.body f) [])
    covers = budget_covers ir tables cap pair image.budget is_pair is_budget

    kept : (n : ℕ) → DoesTheSame (of ir.main) (outcome ir n (opened image).memory) (pair_outcome ir tables cap n (opened image).memory)
    kept n = program_kept ir tables least cap n (opened image).memory

    sound : IsSound setup w
    sound = opened_sound ir image

    abbrev zero_counts : Counts
    zero_counts = record { ld_taken = 0; ld_reserved = 0; al_taken = 0; al_reserved = 0; drained = 0; issued = 0 }

    at_budget : (n : ℕ) (end : End) (u : World) → pair_outcome ir tables cap n (opened image).memory ≡ Over end u → EndsAs setup (opened image) most end u
    at_budget n end u e = ends_as setup p of cap most At_a At_e code_a code_e positive covers ir.main w (opened image) zero_counts refl refl refl sound begins_a begins_e (opened_counted image) n ir.calls end u e

    ended : (halt : Halt) (u v : World) → v.memory ≡ u.memory → v.printed ≡ u.printed → v.items ≡ u.items → OnlyEnds setup (opened image) most halt v → Ends image most halt u
    ended halt u v m o i y = record {
      state = y.state;
      picks = y.picks;
      order = y.order;
      short = rw (← i) y.short;
      halt' = y.halt';
      memory = y.memory ∙ m;
      printed = y.printed ∙ o;
      final = λ depths deep. final_deeper setup depths y.state y.final;
      only = λ depths deep. can_only_end (setup_of image depths) (opened image) (opened_counted image) y.state y.picks (runs_deeper setup depths (opened image) y.state y.picks deep (order_run y.order)) (final_deeper setup depths y.state y.final);
    }

    tells : (n : ℕ) (end : End) (u : World) → outcome ir n (opened image).memory ≡ Over end u → Tells image most end u
    tells n (Halted status) u e = let s = same_end (of ir.main) (outcome ir n (opened image).memory) (pair_outcome ir tables cap n (opened image).memory) (Halted status) u tt (kept n) e in ended (Status status) u s.world s.memory s.printed s.items (at_budget n (Halted status) s.world s.is)
    tells n (Trapped code) u e = let s = same_end (of ir.main) (outcome ir n (opened image).memory) (pair_outcome ir tables cap n (opened image).memory) (Trapped code) u tt (kept n) e in ended (Trap code) u s.world s.memory s.printed s.items (at_budget n (Trapped code) s.world s.is)
    tells n Going u e = tt
    tells n Astray u e = tt

    for_ever : ((n : ℕ) → (u : World) × (outcome ir n (opened image).memory ≡ Over Going u)) → (depths : Depths) → Reaches depths image.budget → GoesOn (setup_of image depths) (opened image) (λ n. (world_of (outcome ir n (opened image).memory)).printed)
    for_ever going depths deep =
        let outputs : ℕ → List ℕ = λ n. (world_of (outcome ir n (opened image).memory)).printed in
        goes_on (setup_of image depths) (opened image) (opened_counted image) outputs (λ n. (
        let g = going n in
        let s = same_end (of ir.main) (outcome ir n (opened image).memory) (pair_outcome ir tables cap n (opened image).memory) Going g.0 tt (kept n) g.1 in
        has_deeper setup depths (opened image) outputs n (λ picks t h. runs_deeper setup depths (opened image) t picks deep h)
        (has_run setup p of cap most At_a At_e code_a code_e positive covers ir.main w (opened image) zero_counts refl refl refl sound begins_a begins_e (opened_counted image) outputs n ir.calls s.world (s.printed ∙ ap (λ (r : Result Env). (world_of r).printed) (sym g.1)) s.is)))

    continues : (n : ℕ) (u : World) → outcome ir n (opened image).memory ≡ Over Going u → Continues image most n u
    continues n u e =
        let s = same_end (of ir.main) (outcome ir n (opened image).memory) (pair_outcome ir tables cap n (opened image).memory) Going u tt (kept n) e in
        let y = onward setup p of cap most At_a At_e code_a code_e positive covers ir.main w (opened image) zero_counts refl refl refl sound begins_a begins_e (opened_counted image) n ir.calls s.world s.is in
        record { state = y.state; picks = y.picks; order = y.order; long = y.long; short = subst (λ (k : ℕ). length y.picks ≤ most * (8 * k + 26)) s.items y.short; printed = y.printed' ∙ s.printed }

    pub does_form : DoesForm ir image most
    does_form = record { size = size; ends = tells; continues = continues; goes_on = for_ever }
