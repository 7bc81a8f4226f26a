-- What expressions come to is below what they come to where their calls' outcomes are.
use Rattle.std.proofs.Common.{ℕ, Bool, true, ◌&&◌, nat_eq, List, length, Option, Some, None, if◌then◌else◌, refl}
use Rattle.dae_base.specs.Words.{plus, extended, width_of}
use Rattle.dae_base.specs.declared.LoadKind.{LoadKind}
use Rattle.dae_base.specs.declared.LoadKind.TheVariants.{U8}
use Rattle.dae_base.specs.declared.Width.{Width}
use Rattle.dae_meaning.specs.Worlds.{World, ticked}
use Rattle.dae_meaning.specs.Results.{At, Over, Halted, Trapped, Astray, Next, within}
use Rattle.dae_meaning.specs.Alike.{IsFront}
use Rattle.dae_meaning.specs.Operations.{spelled, misplaced}
use Rattle.dae_meaning.specs.Variables.{Env, put}
use Rattle.dae_meaning.specs.declared.Operator.{Operator}
use Rattle.dae_meaning.specs.declared.Spelling.TheVariants.{Byte}
use Rattle.dae_meaning.proofs.Laws.{front_same}
use Rattle.dae_program.specs.Trees as tree
use Rattle.dae_program.specs.Trees.{Expression, Target, Expressions, Setting, Statements, Arms, Program, Function}
use Rattle.dae_program.specs.Outcomes.{Outcome, Gives, Object, Local, Placed, unless, access, store, read, write, with_written, last_world}
use Rattle.dae_program.specs.Expressions.{ProgramSetup, operate, divides, decide, evaluate, object, arguments, return_to, with_printed}
use Rattle.dae_program.proofs.Above.{same_above, bind_above, choice_above, Above, AboveResult, Giving, Ending, GoingTo, GoingOn, SameResult}

-- ---- what doesn't depend on the bound

pub unless_above : {X : Type 0} (o : Option ℕ) (r : Outcome X) (w : World) → IsFront w.printed (last_world r).printed → Above w.printed (unless o r w) (unless o r w)
unless_above None r w a = same_above w.printed r a
unless_above (Some code) r w a = Ending (Trapped code) w (front_same w.printed)

pub access_above : {X : Type 0} (b : Bool) (o : Option ℕ) (r : Outcome X) (w : World) → IsFront w.printed (last_world r).printed → Above w.printed (access b o r w) (access b o r w)
access_above b None r w a = same_above w.printed r a
access_above b (Some code) r w a = Ending (if b then Trapped code else Astray) w (front_same w.printed)

pub store_over : (width : Width) (x y : ℕ) (env : Env) (w : World) → AboveResult w.printed (store width x y env w) (store width x y env w)
store_over width x y env w = by (misplaced width x (length w.memory)) where
  by : (o : Option ℕ) → AboveResult w.printed (within o w (At Next env (with_written width x y w))) (within o w (At Next env (with_written width x y w)))
  by None = SameResult (At Next env (with_written width x y w)) (front_same w.printed)
  by (Some code) = SameResult (Over Astray w) (front_same w.printed)

pub read_above : (kind : LoadKind) (o : Object) (env : Env) (w : World) → Above w.printed (read kind o env w) (read kind o env w)
read_above kind (Local v) env w = Giving (env v) env w (front_same w.printed)
read_above kind (Placed checked x) env w = access_above checked (misplaced (width_of kind) x (length w.memory)) _ w (front_same w.printed)

pub write_above : (kind : LoadKind) (o : Object) (y : ℕ) (env : Env) (w : World) → Above w.printed (write kind o y env w) (write kind o y env w)
write_above kind (Local v) y env w = Giving y (put true v y env) w (front_same w.printed)
write_above kind (Placed checked x) y env w = access_above checked (misplaced (width_of kind) x (length w.memory)) _ w (front_same w.printed)

pub operate_above : (operator : Operator) (x y : ℕ) (env : Env) (w : World) → Above w.printed (operate operator x y env w) (operate operator x y env w)
operate_above operator x y env w = choice_above (divides operator && nat_eq y 0) w.printed _ _ _ _ (Ending (Trapped 1) w (front_same w.printed)) (Giving _ env w (front_same w.printed))

pub gives_above : {X : Type 0} (x : X) (env : Env) (w : World) → Above w.printed (Gives x env w) (Gives x env w)
gives_above x env w = Giving x env w (front_same w.printed)

pub return_above : (xs : List ℕ) (env : Env) (r q : Outcome ℕ) → Above xs r q → Above xs (return_to env r) (return_to env q)
return_above xs env r q (Giving x e w a) = Giving x env w a
return_above xs env r q (Ending end w a) = Ending end w a
return_above xs env r q (GoingTo w x e u a b) = GoingTo w x env u a b
return_above xs env r q (GoingOn w end u a b) = GoingOn w end u a b

pub decide_above : (y : ℕ) (env : Env) (w : World) → Above w.printed (decide y env w) (decide y env w)
decide_above y env w = choice_above (nat_eq y 0) w.printed _ _ _ _ (gives_above 0 env w) (gives_above 1 env w)

-- ---- expressions

module _ (address : ℕ → ℕ) (calls more : ℕ → List ℕ → World → Outcome ℕ) (called : (f : ℕ) (xs : List ℕ) (w : World) → Above w.printed (calls f xs w) (more f xs w)) where
  abbrev pub less : ProgramSetup
  less = record { address = address; calls = calls }

  abbrev pub greater : ProgramSetup
  greater = record { address = address; calls = more }

  mutual
    pub evaluate_above : (e : Expression) (env : Env) (w : World) → Above w.printed (evaluate less e env w) (evaluate greater e env w)
    evaluate_above (tree.Number k) env w = gives_above _ env (ticked w)
    evaluate_above (tree.Address number offset) env w = gives_above _ env (ticked w)
    evaluate_above (tree.Frame p offset) env w = gives_above _ env (ticked w)
    evaluate_above (tree.Variable p v) env w = gives_above _ env (ticked w)
    evaluate_above (tree.Read p kind b a) env w = bind_above w.printed _ _ _ _ (evaluate_above a env (ticked w)) (λ x env w. read_above kind (Placed b x) env w)
    evaluate_above (tree.Convert p kind a) env w = bind_above w.printed _ _ _ _ (evaluate_above a env (ticked w)) (λ x env w. gives_above _ env w)
    evaluate_above (tree.Not p a) env w = bind_above w.printed _ _ _ _ (evaluate_above a env (ticked w)) (λ x env w. gives_above _ env w)
    evaluate_above (tree.Binary p operator a b) env w = bind_above w.printed _ _ _ _ (evaluate_above a env (ticked w)) (λ x env w. bind_above w.printed _ _ _ _ (evaluate_above b env w) (λ y env w. operate_above operator x y env w))
    evaluate_above (tree.Compare p relation turned a b) env w = bind_above w.printed _ _ _ _ (evaluate_above a env (ticked w)) (λ x env w. bind_above w.printed _ _ _ _ (evaluate_above b env w) (λ y env w. gives_above _ env w))
    evaluate_above (tree.And p a b) env w = bind_above w.printed _ _ _ _ (evaluate_above a env (ticked w)) (λ x env w. choice_above (nat_eq x 0) w.printed _ _ _ _ (gives_above 0 env w) (bind_above w.printed _ _ _ _ (evaluate_above b env w) decide_above))
    evaluate_above (tree.Or p a b) env w = bind_above w.printed _ _ _ _ (evaluate_above a env (ticked w)) (λ x env w. choice_above (nat_eq x 0) w.printed _ _ _ _ (bind_above w.printed _ _ _ _ (evaluate_above b env w) decide_above) (gives_above 1 env w))
    evaluate_above (tree.Conditional p a b c) env w = bind_above w.printed _ _ _ _ (evaluate_above a env (ticked w)) (λ x env w. choice_above (nat_eq x 0) w.printed _ _ _ _ (evaluate_above c env w) (evaluate_above b env w))
    evaluate_above (tree.Comma a b) env w = bind_above w.printed _ _ _ _ (evaluate_above a env (ticked w)) (λ x env w. evaluate_above b env w)
    evaluate_above (tree.Assign p kind t a) env w = bind_above w.printed _ _ _ _ (object_above t env (ticked w)) (λ o env w. bind_above w.printed _ _ _ _ (evaluate_above a env w) (λ y env w. write_above kind o y env w))
    evaluate_above (tree.Update p kind t operator a) env w = bind_above w.printed _ _ _ _ (object_above t env (ticked w)) (λ o env w. bind_above w.printed _ _ _ _ (read_above kind o env w) (λ x env w. bind_above w.printed _ _ _ _ (evaluate_above a env w) (λ y env w. bind_above w.printed _ _ _ _ (operate_above operator x y env w) (λ z env w. write_above kind o (extended kind z) env w))))
    evaluate_above (tree.Step p kind t change new) env w = bind_above w.printed _ _ _ _ (object_above t env (ticked w)) (λ o env w. bind_above w.printed _ _ _ _ (read_above kind o env w) (λ x env w. bind_above w.printed _ _ _ _ (write_above kind o (extended kind (plus x change)) env w) (λ y env w. gives_above _ env w)))
    evaluate_above (tree.Call p f xs) env w = bind_above w.printed _ _ _ _ (arguments_above xs env (ticked w)) (λ words env w. return_above w.printed env _ _ (called f words w))
    evaluate_above (tree.Putchar p a) env w = bind_above w.printed _ _ _ _ (evaluate_above a env (ticked w)) (λ x env w. Giving (extended U8 x) env (with_printed (spelled Byte x) w) (spelled Byte x, refl))
    evaluate_above (tree.Exit p a) env w = bind_above w.printed _ _ _ _ (evaluate_above a env (ticked w)) (λ x env w. Ending (Halted x) w (front_same w.printed))
    evaluate_above (tree.Abort p) env w = Ending (Trapped 5) (ticked w) (front_same w.printed)

    pub object_above : (t : Target) (env : Env) (w : World) → Above w.printed (object less t env w) (object greater t env w)
    object_above (tree.InVariable v) env w = gives_above _ env w
    object_above (tree.AtAddress b a) env w = bind_above w.printed _ _ _ _ (evaluate_above a env w) (λ x env w. gives_above _ env w)

    pub arguments_above : (xs : Expressions) (env : Env) (w : World) → Above w.printed (arguments less xs env w) (arguments greater xs env w)
    arguments_above tree.no_expressions env w = gives_above _ env w
    arguments_above (tree.expression_then a xs) env w = bind_above w.printed _ _ _ _ (evaluate_above a env (ticked w)) (λ x env w. bind_above w.printed _ _ _ _ (arguments_above xs env w) (λ words env w. gives_above _ env w))
