-- How a region can end: without a jump out of it, and without a loop it ends.
use Rattle.std.proofs.Common.{◌≡◌, ℕ, zero, suc, Bool, true, false, not, ◌||◌, length, Option, Some, None, if◌then◌else◌, refl}
use Rattle.std.proofs.lemmas.Bool.{and_parts, or_parts}
use Rattle.dae_base.specs.Words.{width_of}
use Rattle.dae_meaning.specs.Worlds.{World, ticked}
use Rattle.dae_meaning.specs.Results.{Result, At, Over, Next, Leaves, Skips, Returns, Halted, Trapped, Going, Astray, Run, ◌▷◌, ◌↻◌, turns, within}
use Rattle.dae_ir.specs.Code.{Done, Do, If, Loop, CodeMeaning, exec}
use Rattle.dae_meaning.specs.Operations.{misplaced}
use Rattle.dae_meaning.specs.Variables.{Env}
use Rattle.dae_ir.specs.Form.{Form, value, holds}
use Rattle.dae_ir.specs.Classes.{Classes}
use Rattle.dae_ir.specs.Rounds.{is_jump, stays}
use Rattle.dae_ir.specs.Canonical.{does_a, does_e, region_meaning}
use Rattle.dae_ir.specs.Streams.{has_loop}
use Rattle.dae_ir.specs.declared.form.Test.{Test}
use Rattle.dae_ir.specs.declared.form.Item.{Item}
use Rattle.dae_ir.specs.declared.form.Item.TheVariants.{Assign, Load, Store, Print, Expect, Break, Continue, Call, Return, Halt}

-- ---- how a region can end

-- no jump leaves the region, but for those inside of a loop
abbrev pub WayFits : Bool → Result Env → Type 0
WayFits inside (At Next env w) = Unit {0}
WayFits inside (At Leaves env w) = inside ≡ true
WayFits inside (At Skips env w) = inside ≡ true
WayFits inside (At Returns env w) = ⊥
WayFits inside (Over end w) = Unit {0}

-- it hasn't gone on for too long
abbrev pub NotGoing : Result Env → Type 0
NotGoing (At way env w) = Unit {0}
NotGoing (Over (Halted c) w) = Unit {0}
NotGoing (Over (Trapped c) w) = Unit {0}
NotGoing (Over Going w) = ⊥
NotGoing (Over Astray w) = Unit {0}

or_not : (inside jump : Bool) → inside || not jump ≡ true → jump ≡ true → inside ≡ true
or_not true jump h k = refl
or_not false true h k = absurd (let e : false ≡ true = h in cc)
or_not false false h k = k

fits_more : (a b : Bool) → (a ≡ true → b ≡ true) → (r : Result Env) → WayFits a r → WayFits b r
fits_more a b h (At Next env w) y = tt
fits_more a b h (At Leaves env w) y = h y
fits_more a b h (At Skips env w) y = h y
fits_more a b h (At Returns env w) y = y
fits_more a b h (Over end w) y = tt

fits_bind : (inside : Bool) (r : Result Env) (f : Run Env) → WayFits inside r → ((env : Env) (w : World) → WayFits inside (f env w)) → WayFits inside (r ▷ f)
fits_bind inside (At Next env w) f y h = h env w
fits_bind inside (At Leaves env w) f y h = y
fits_bind inside (At Skips env w) f y h = y
fits_bind inside (At Returns env w) f y h = y
fits_bind inside (Over end w) f y h = tt

fits_turn : (inside : Bool) (r : Result Env) (f : Run Env) → WayFits true r → ((env : Env) (w : World) → WayFits inside (f env w)) → WayFits inside (r ↻ f)
fits_turn inside (At Next env w) f y h = h env w
fits_turn inside (At Leaves env w) f y h = tt
fits_turn inside (At Skips env w) f y h = h env w
fits_turn inside (At Returns env w) f y h = y
fits_turn inside (Over end w) f y h = tt

fits_if : (inside t : Bool) (r s : Result Env) → WayFits inside r → WayFits inside s → WayFits inside (if t then r else s)
fits_if inside true r s y z = y
fits_if inside false r s y z = z

going_bind : (r : Result Env) (f : Run Env) → NotGoing r → ((env : Env) (w : World) → NotGoing (f env w)) → NotGoing (r ▷ f)
going_bind (At Next env w) f y h = h env w
going_bind (At Leaves env w) f y h = tt
going_bind (At Skips env w) f y h = tt
going_bind (At Returns env w) f y h = tt
going_bind (Over (Halted c) w) f y h = tt
going_bind (Over (Trapped c) w) f y h = tt
going_bind (Over Going w) f y h = y
going_bind (Over Astray w) f y h = tt

going_if : (t : Bool) (r s : Result Env) → NotGoing r → NotGoing s → NotGoing (if t then r else s)
going_if true r s y z = y
going_if false r s y z = z

module _ (does : Item → Run Env) (way : (item : Item) (env : Env) (w : World) → WayFits (is_jump item) (does item env w)) (going : (item : Item) (env : Env) (w : World) → NotGoing (does item env w)) (n : ℕ) where
  abbrev m : CodeMeaning Item Test Env
  m = region_meaning does

  turns_fit : (f g : Run Env) → ((env : Env) (w : World) → WayFits true (f env w)) → ((env : Env) (w : World) → WayFits true (g env w)) → (j : ℕ) (env : Env) (w : World) → WayFits false (turns f g j env w)
  turns_fit f g i k zero env w = tt
  turns_fit f g i k (suc j) env w = fits_turn false (f env (ticked w)) (λ env w. g env w ↻ turns f g j) (i env (ticked w)) (λ env w. fits_turn false (g env w) (turns f g j) (k env w) (turns_fit f g i k j))

  pub stays_fit : (inside : Bool) (code : Form) → stays inside code ≡ true → (env : Env) (w : World) → WayFits inside (exec m n code env w)
  stays_fit inside Done h env w = tt
  stays_fit inside (Do place item k) h env w =
      let both = and_parts _ _ h in
      fits_bind inside (does item env w) (exec m n k) (fits_more (is_jump item) inside (or_not inside (is_jump item) both.0) (does item env w) (way item env w)) (stays_fit inside k both.1)
  stays_fit inside (If place t x y k) h env w =
      let both = and_parts _ _ h in
      let both' = and_parts _ _ both.1 in
      fits_bind inside _ (exec m n k) (fits_if inside (holds t env) _ _ (stays_fit inside x both.0 env (ticked w)) (stays_fit inside y both'.0 env (ticked w))) (stays_fit inside k both'.1)
  stays_fit inside (Loop place x y k) h env w =
      let both = and_parts _ _ h in
      let both' = and_parts _ _ both.1 in
      fits_bind inside (turns (exec m n x) (exec m n y) n env w) (exec m n k)
      (fits_more false inside (λ e. absurd (let z : false ≡ true = e in cc)) (turns (exec m n x) (exec m n y) n env w) (turns_fit (exec m n x) (exec m n y) (stays_fit true x both.0) (stays_fit true y both'.0) n env w)) (stays_fit inside k both'.1)

  pub no_loop_ends : (code : Form) → has_loop code ≡ false → (env : Env) (w : World) → NotGoing (exec m n code env w)
  no_loop_ends Done h env w = tt
  no_loop_ends (Do place item k) h env w = going_bind (does item env w) (exec m n k) (going item env w) (no_loop_ends k h)
  no_loop_ends (If place t x y k) h env w =
      let both = or_parts _ _ h in
      let both' = or_parts _ _ both.1 in
      going_bind _ (exec m n k) (going_if (holds t env) _ _ (no_loop_ends x both.0 env (ticked w)) (no_loop_ends y both'.0 env (ticked w))) (no_loop_ends k both'.1)
  no_loop_ends (Loop place x y k) h env w = absurd (let z : true ≡ false = h in cc)

within_fits : (o : Option ℕ) (w : World) (r : Result Env) → WayFits false r → WayFits false (within o w r)
within_fits None w r y = y
within_fits (Some code) w r y = tt

within_going : (o : Option ℕ) (w : World) (r : Result Env) → NotGoing r → NotGoing (within o w r)
within_going None w r y = y
within_going (Some code) w r y = tt

pub way_a : (c : Classes) (item : Item) (env : Env) (w : World) → WayFits (is_jump item) (does_a c item env w)
way_a c (Assign v x) env w = tt
way_a c (Load v kind x) env w = within_fits (misplaced (width_of kind) (value x env) (length w.memory)) w _ tt
way_a c (Store width x y) env w = tt
way_a c (Print spelling x) env w = tt
way_a c (Expect check) env w = tt
way_a c Break env w = refl
way_a c Continue env w = refl
way_a c (Call v f xs) env w = tt
way_a c (Return x) env w = tt
way_a c (Halt x) env w = tt

pub going_a : (c : Classes) (item : Item) (env : Env) (w : World) → NotGoing (does_a c item env w)
going_a c (Assign v x) env w = tt
going_a c (Load v kind x) env w = within_going (misplaced (width_of kind) (value x env) (length w.memory)) w _ tt
going_a c (Store width x y) env w = tt
going_a c (Print spelling x) env w = tt
going_a c (Expect check) env w = tt
going_a c Break env w = tt
going_a c Continue env w = tt
going_a c (Call v f xs) env w = tt
going_a c (Return x) env w = tt
going_a c (Halt x) env w = tt

pub way_e : (c : Classes) (item : Item) (env : Env) (w : World) → WayFits (is_jump item) (does_e c item env w)
way_e c (Assign v x) env w = tt
way_e c (Load v kind x) env w = tt
way_e c (Store width x y) env w = tt
way_e c (Print spelling x) env w = tt
way_e c (Expect check) env w = tt
way_e c Break env w = refl
way_e c Continue env w = refl
way_e c (Call v f xs) env w = tt
way_e c (Return x) env w = tt
way_e c (Halt x) env w = tt

pub going_e : (c : Classes) (item : Item) (env : Env) (w : World) → NotGoing (does_e c item env w)
going_e c (Assign v x) env w = tt
going_e c (Load v kind x) env w = tt
going_e c (Store width x y) env w = tt
going_e c (Print spelling x) env w = tt
going_e c (Expect check) env w = tt
going_e c Break env w = tt
going_e c Continue env w = tt
going_e c (Call v f xs) env w = tt
going_e c (Return x) env w = tt
going_e c (Halt x) env w = tt
