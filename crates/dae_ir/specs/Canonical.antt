-- What the two processors do in canonical order, round by round and without queues: A's part of a group, E's part with
-- the words and the copies that A sent, and at most one store.
use Rattle.std.specs.Prelude.{ℕ, zero, suc, Bool, true, false, not, ◌&&◌, ◌||◌, List, [], ◌∷◌, length, Option, Some, None, if◌then◌else◌}
use Rattle.dae_base.specs.Words.{loaded, width_of}
use Rattle.dae_meaning.specs.Worlds.{World, ticked, fetched}
use Rattle.dae_meaning.specs.Results.{Result, At, Over, Next, Leaves, Skips, Returns, Halted, Trapped, Astray, Run, within, checked}
use Rattle.dae_meaning.specs.Operations.{misplaced}
use Rattle.dae_ir.specs.Code.{CodeMeaning, exec}
use Rattle.dae_meaning.specs.Variables.{Env, put, entered}
use Rattle.dae_ir.specs.Form.{value, values, computed, holds, fault, with_stored, with_printed, ended, Program, called, deeper}
use Rattle.dae_ir.specs.Classes.{Classes}
use Rattle.dae_ir.specs.Rounds.{Jump, Breaks, Continues, Enters, Gives, Halts, Round, Group, Alone, Region, Decision, rounds}
use Rattle.dae_ir.specs.declared.stream.Part.{Part}
use Rattle.dae_ir.specs.declared.stream.Part.TheVariants.{Sets, Loads, Tests}
use Rattle.dae_ir.specs.declared.stream.Last.{Last}
use Rattle.dae_ir.specs.declared.stream.Last.TheVariants.{Nothing, Stores, Prints, Decides}
use Rattle.dae_ir.specs.declared.form.Check.TheVariants.{Room}
use Rattle.dae_ir.specs.declared.form.Test.{Test}
use Rattle.dae_ir.specs.declared.form.Item.{Item}
use Rattle.dae_ir.specs.declared.form.Item.TheVariants.{Assign, Load, Print, Break, Continue}

-- A's variables, and E's
pub record Sides : Type 0 where
  pub a : Env
  pub e : Env

-- a load is issued where its variable is needed at all
abbrev pub is_issued : Classes → ℕ → Bool
is_issued c v = c.s v || c.needs v

abbrev pub issued : (ℕ → Classes) → ℕ → ℕ → Bool
issued of f = is_issued (of f)

-- ---- groups

-- what A's part of a group ends with: its variables, the words loaded for E and the copies, or the code of a trap, or a
-- misplaced load
pub data Access : Type 0 where
  Passed : (env : Env) (words copies : List ℕ) (w : World) → Access
  Failed : (code : ℕ) (w : World) → Access
  Strayed : (w : World) → Access

abbrev pub with_word : Bool → ℕ → Access → Access
with_word true x (Passed env words copies w) = Passed env (x ∷ words) copies w
with_word false x (Passed env words copies w) = Passed env words copies w
with_word b x (Failed code w) = Failed code w
with_word b x (Strayed w) = Strayed w

abbrev pub with_copy : Bool → ℕ → Access → Access
with_copy true x (Passed env words copies w) = Passed env words (x ∷ copies) w
with_copy false x (Passed env words copies w) = Passed env words copies w
with_copy b x (Failed code w) = Failed code w
with_copy b x (Strayed w) = Strayed w

-- A goes on only where a check doesn't fail
abbrev pub unless : Option ℕ → World → Access → Access
unless None w r = r
unless (Some code) w r = Failed code w

abbrev pub reached : Option ℕ → World → Access → Access
reached None w r = r
reached (Some code) w r = Strayed w

-- A's part of a group: of what both need it sends a copy, and a load that E alone needs is for E
abbrev pub access : Program → Classes → List Part → World → Env → Access
access p c [] w env = Passed env [] [] w
access p c (Sets place v x ∷ g) w env =
    with_copy (c.s v && c.needs v) (computed x w.frame env)
    (access p c g (ticked w) (put (c.s v) v (computed x w.frame env) env))
access p c (Loads place v kind x ∷ g) w env =
    reached (misplaced (width_of kind) (value x env) (length w.memory)) w
    (with_word (not (c.s v) && c.needs v) (loaded kind (value x env) w.memory)
    (with_copy (c.s v && c.needs v) (loaded kind (value x env) w.memory)
    (access p c g (fetched (is_issued c v) w) (put (c.s v) v (loaded kind (value x env) w.memory) env))))
access p c (Tests place check ∷ g) w env = unless (fault p check w env) (ticked w) (access p c g (ticked w) env)

-- what E does with the words and the copies
abbrev pub Takes : Type 0
Takes = List ℕ → List ℕ → Env → Env

abbrev pub received : Takes → ℕ → Takes
received go v [] copies env = go [] copies env
received go v (x ∷ words) copies env = go words copies (put true v x env)

abbrev pub accepted : Takes → ℕ → Takes
accepted go v words [] env = go words [] env
accepted go v words (x ∷ copies) env = go words copies (put true v x env)

-- flags: A needs v, E needs v
abbrev pub sets_e : Bool → Bool → Takes → ℕ → (Env → ℕ) → Takes
sets_e true true go v x words copies env = accepted go v words copies env
sets_e false true go v x words copies env = go words copies (put true v (x env) env)
sets_e s false go v x words copies env = go words copies env

abbrev pub loads_e : Bool → Bool → Takes → ℕ → Takes
loads_e true true go v words copies env = accepted go v words copies env
loads_e false true go v words copies env = received go v words copies env
loads_e s false go v words copies env = go words copies env

-- E's part of a group, in a frame that begins there
abbrev pub execute : Classes → List Part → ℕ → Takes
execute c [] frame words copies env = env
execute c (Sets place v x ∷ g) frame words copies env =
    sets_e (c.s v) (c.needs v) (execute c g frame) v (computed x frame) words copies env
execute c (Loads place v kind x ∷ g) frame words copies env =
    loads_e (c.s v) (c.needs v) (execute c g frame) v words copies env
execute c (Tests place check ∷ g) frame words copies env = execute c g frame words copies env

-- what closes a group: A gives addresses, E all else
abbrev pub finished : Program → Last → Run Sides
finished p Nothing b w = At Next b w
finished p (Stores place width x y) b w =
    within (misplaced width (value x b.a) (length w.memory)) w (At Next b (with_stored width (value x b.a) (value y b.e) w))
finished p (Prints place spelling x) b w = At Next b (with_printed spelling (value x b.e) w)
finished p (Decides place check) b w = checked (fault p check w b.e) b (ticked w)

-- what E does with the words is go. Where A's part fails, E takes the code and does none of its own
abbrev pub grouped : Program → Last → (List ℕ → List ℕ → Env) → Access → Result Sides
grouped p last go (Passed a words copies w) = finished p last (record { a = a; e = go words copies }) w
grouped p last go (Failed code w) = Over (Trapped code) w
grouped p last go (Strayed w) = Over Astray w

-- ---- what stands between groups

abbrev pub put_both : Classes → ℕ → ℕ → ℕ → Sides → Sides
put_both c v x y b = record { a = put (c.s v) v x b.a; e = put (c.needs v) v y b.e }

-- what a call does with A's arguments and E's
abbrev pub PairCalls : Type 0
PairCalls = ℕ → List ℕ → List ℕ → World → Result Sides

abbrev pub jumped : Program → PairCalls → Classes → Jump → Run Sides
jumped p calls c Breaks b w = At Leaves b (ticked w)
jumped p calls c Continues b w = At Skips b (ticked w)
jumped p calls c (Enters v f xs) b w =
    within (fault p (Room f) w b.a) w
    (ended (λ (r : Sides). put_both c v (r.a 0) (r.e 0) b) w (calls f (values xs b.a) (values xs b.e) (called xs w)))
jumped p calls c (Gives x) b w = At Returns (put_both c 0 (value x b.a) (value x b.e) b) (ticked w)
jumped p calls c (Halts x) b w = Over (Halted (value x b.e)) (ticked w)

-- ---- regions

-- what the items of a region do on its side
abbrev pub does_a : Classes → Item → Run Env
does_a c (Assign v x) env w = At Next (put (c.s v) v (computed x w.frame env) env) (ticked w)
does_a c (Load v kind x) env w =
    within (misplaced (width_of kind) (value x env) (length w.memory)) w
    (At Next (put (c.s v) v (loaded kind (value x env) w.memory) env) (fetched (is_issued c v) w))
does_a c Break env w = At Leaves env (ticked w)
does_a c Continue env w = At Skips env (ticked w)
does_a c item env w = At Next env (ticked w)

abbrev pub does_e : Classes → Item → Run Env
does_e c (Assign v x) env w = At Next (put (c.needs v) v (computed x w.frame env) env) (ticked w)
does_e c (Print spelling x) env w = At Next env (with_printed spelling (value x env) w)
does_e c Break env w = At Leaves env (ticked w)
does_e c Continue env w = At Skips env (ticked w)
does_e c item env w = At Next env (ticked w)

-- one side has gone on, and the other's variables stay
abbrev pub on_side : (Env → Sides) → Result Env → Result Sides
on_side sides (At way env w) = At way (sides env) w
on_side sides (Over end w) = Over end w

abbrev pub with_a : Env → Env → Sides
with_a e a = record { a = a; e = e }

abbrev pub with_e : Env → Env → Sides
with_e a e = record { a = a; e = e }

abbrev pub region_meaning : (Item → Run Env) → CodeMeaning Item Test Env
region_meaning does = record { does = does; holds = holds }

-- ---- rounds and functions

abbrev pub does_round : Program → ℕ → PairCalls → Classes → Round → Run Sides
does_round p n calls c (Group g last) b w =
    grouped p last (λ words copies. execute c g w.frame words copies b.e) (access p c g w b.a)
does_round p n calls c (Alone jump) b w = jumped p calls c jump b w
does_round p n calls c (Region true code) b w =
    on_side (with_a b.e) (exec (region_meaning (does_a c)) n code b.a w)
does_round p n calls c (Region false code) b w =
    on_side (with_e b.a) (exec (region_meaning (does_e c)) n code b.e w)

-- the processor that decides tells the other
abbrev pub holds_told : Decision → Sides → Bool
holds_told d b = if d.by_a then holds d.test b.a else holds d.test b.e

abbrev pub canonical : Program → ℕ → PairCalls → Classes → CodeMeaning Round Decision Sides
canonical p n calls c = record { does = does_round p n calls c; holds = holds_told }

-- each processor gets the arguments of its own class
abbrev pub entered_both : Classes → List ℕ → List ℕ → Sides
entered_both c xs ys = record { a = entered c.s 1 xs; e = entered c.needs 1 ys }

-- at most n turns of each loop, and at most limit calls inside one another
abbrev pub pair_calls_of : Program → (ℕ → Classes) → ℕ → ℕ → ℕ → PairCalls
pair_calls_of p of cap n zero f xs ys w = Over Astray w
pair_calls_of p of cap n (suc limit) f xs ys w =
    exec (canonical p n (pair_calls_of p of cap n limit) (of f)) n (rounds (of f) cap true (p.body f) []) (entered_both (of f) xs ys) (deeper p f w)
