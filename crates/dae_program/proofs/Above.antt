-- One outcome is below another, which has printed no less, and what keeps that.
use Rattle.std.proofs.Common.{ℕ, Bool, true, false, List, if◌then◌else◌}
use Rattle.dae_meaning.specs.Worlds.{World}
use Rattle.dae_meaning.specs.Results.{Result, At, Over, End, Going, Next, Leaves, Skips, Returns, Run, ◌▷◌, ◌↻◌, world_of}
use Rattle.dae_meaning.specs.Alike.{IsFront}
use Rattle.dae_meaning.specs.Variables.{Env}
use Rattle.dae_meaning.proofs.Laws.{front_same, front_on}
use Rattle.dae_program.specs.Outcomes.{Outcome, Gives, Ends, ◌⟫◌, ◌⊳◌, last_world}
use Rattle.dae_program.specs.Switches.{leave_switch}

-- below, and the second only adds output
pub data Above {X : Type 0} (xs : List ℕ) : Outcome X → Outcome X → Type 0 where
  Giving : (x : X) (env : Env) (w : World) → IsFront xs w.printed → Above xs (Gives x env w) (Gives x env w)
  Ending : (end : End) (w : World) → IsFront xs w.printed → Above xs (Ends end w) (Ends end w)
  GoingTo : (w : World) (x : X) (env : Env) (u : World) → IsFront xs w.printed → IsFront w.printed u.printed → Above xs (Ends Going w) (Gives x env u)
  GoingOn : (w : World) (end : End) (u : World) → IsFront xs w.printed → IsFront w.printed u.printed → Above xs (Ends Going w) (Ends end u)

-- the same of statements
pub data AboveResult (xs : List ℕ) : Result Env → Result Env → Type 0 where
  SameResult : (r : Result Env) → IsFront xs (world_of r).printed → AboveResult xs r r
  GoingResult : (w : World) (r : Result Env) → IsFront xs w.printed → IsFront w.printed (world_of r).printed → AboveResult xs (Over Going w) r

-- ---- outcomes

module _ {X : Type 0} where
  pub grown : (xs : List ℕ) (r q : Outcome X) → Above xs r q → IsFront xs (last_world q).printed
  grown xs r q (Giving x env w a) = a
  grown xs r q (Ending end w a) = a
  grown xs r q (GoingTo w x env u a b) = front_on xs w.printed u.printed a b
  grown xs r q (GoingOn w end u a b) = front_on xs w.printed u.printed a b

  pub going_above : (xs : List ℕ) (w : World) (q : Outcome X) → IsFront xs w.printed → IsFront w.printed (last_world q).printed → Above xs (Ends Going w) q
  going_above xs w (Gives x env u) a b = GoingTo w x env u a b
  going_above xs w (Ends end u) a b = GoingOn w end u a b

  pub longer : (xs ys : List ℕ) (r q : Outcome X) → IsFront xs ys → Above ys r q → Above xs r q
  longer xs ys r q f (Giving x env w a) = Giving x env w (front_on xs ys w.printed f a)
  longer xs ys r q f (Ending end w a) = Ending end w (front_on xs ys w.printed f a)
  longer xs ys r q f (GoingTo w x env u a b) = GoingTo w x env u (front_on xs ys w.printed f a) b
  longer xs ys r q f (GoingOn w end u a b) = GoingOn w end u (front_on xs ys w.printed f a) b

  pub same_above : (xs : List ℕ) (r : Outcome X) → IsFront xs (last_world r).printed → Above xs r r
  same_above xs (Gives x env w) a = Giving x env w a
  same_above xs (Ends end w) a = Ending end w a

pub bind_above : {X Y : Type 0} (xs : List ℕ) (r q : Outcome X) (f g : X → Env → World → Outcome Y) → Above xs r q → ((x : X) (env : Env) (w : World) → Above w.printed (f x env w) (g x env w)) → Above xs (r ⟫ f) (q ⟫ g)
bind_above xs r q f g (Giving x env w a) h = longer xs w.printed (f x env w) (g x env w) a (h x env w)
bind_above xs r q f g (Ending end w a) h = Ending end w a
bind_above xs r q f g (GoingTo w x env u a b) h = going_above xs w (g x env u) a (front_on w.printed u.printed (last_world (g x env u)).printed b (grown u.printed (f x env u) (g x env u) (h x env u)))
bind_above xs r q f g (GoingOn w end u a b) h = GoingOn w end u a b

-- ---- results

pub over_grown : (xs : List ℕ) (r q : Result Env) → AboveResult xs r q → IsFront xs (world_of q).printed
over_grown xs r q (SameResult t a) = a
over_grown xs r q (GoingResult w t a b) = front_on xs w.printed (world_of t).printed a b

pub over_longer : (xs ys : List ℕ) (r q : Result Env) → IsFront xs ys → AboveResult ys r q → AboveResult xs r q
over_longer xs ys r q f (SameResult t a) = SameResult t (front_on xs ys (world_of t).printed f a)
over_longer xs ys r q f (GoingResult w t a b) = GoingResult w t (front_on xs ys w.printed f a) b

abbrev pub AboveRuns : Run Env → Run Env → Type 0
AboveRuns f g = (env : Env) (w : World) → AboveResult w.printed (f env w) (g env w)

pub then_grown : (r : Result Env) (g : Run Env) → ((env : Env) (w : World) → IsFront w.printed (world_of (g env w)).printed) → IsFront (world_of r).printed (world_of (r ▷ g)).printed
then_grown (At Next e w) g h = h e w
then_grown (At Leaves e w) g h = front_same w.printed
then_grown (At Skips e w) g h = front_same w.printed
then_grown (At Returns e w) g h = front_same w.printed
then_grown (Over end w) g h = front_same w.printed

pub loop_grown : (r : Result Env) (g : Run Env) → ((env : Env) (w : World) → IsFront w.printed (world_of (g env w)).printed) → IsFront (world_of r).printed (world_of (r ↻ g)).printed
loop_grown (At Next e w) g h = h e w
loop_grown (At Leaves e w) g h = front_same w.printed
loop_grown (At Skips e w) g h = h e w
loop_grown (At Returns e w) g h = front_same w.printed
loop_grown (Over end w) g h = front_same w.printed

pub then_over : (xs : List ℕ) (r q : Result Env) (f g : Run Env) → AboveResult xs r q → ((env : Env) (w : World) → AboveResult w.printed (f env w) (g env w)) → AboveResult xs (r ▷ f) (q ▷ g)
then_over xs r q f g (SameResult (At Next e w) a) h = over_longer xs w.printed (f e w) (g e w) a (h e w)
then_over xs r q f g (SameResult (At Leaves e w) a) h = SameResult (At Leaves e w) a
then_over xs r q f g (SameResult (At Skips e w) a) h = SameResult (At Skips e w) a
then_over xs r q f g (SameResult (At Returns e w) a) h = SameResult (At Returns e w) a
then_over xs r q f g (SameResult (Over end w) a) h = SameResult (Over end w) a
then_over xs r q f g (GoingResult w t a b) h = GoingResult w (t ▷ g) a (front_on w.printed (world_of t).printed (world_of (t ▷ g)).printed b (then_grown t g (λ e u. over_grown u.printed (f e u) (g e u) (h e u))))

pub loop_over : (xs : List ℕ) (r q : Result Env) (f g : Run Env) → AboveResult xs r q → ((env : Env) (w : World) → AboveResult w.printed (f env w) (g env w)) → AboveResult xs (r ↻ f) (q ↻ g)
loop_over xs r q f g (SameResult (At Next e w) a) h = over_longer xs w.printed (f e w) (g e w) a (h e w)
loop_over xs r q f g (SameResult (At Leaves e w) a) h = SameResult (At Next e w) a
loop_over xs r q f g (SameResult (At Skips e w) a) h = over_longer xs w.printed (f e w) (g e w) a (h e w)
loop_over xs r q f g (SameResult (At Returns e w) a) h = SameResult (At Returns e w) a
loop_over xs r q f g (SameResult (Over end w) a) h = SameResult (Over end w) a
loop_over xs r q f g (GoingResult w t a b) h = GoingResult w (t ↻ g) a (front_on w.printed (world_of t).printed (world_of (t ↻ g)).printed b (loop_grown t g (λ e u. over_grown u.printed (f e u) (g e u) (h e u))))

pub value_over : {X : Type 0} (xs : List ℕ) (r q : Outcome X) (f g : X → Run Env) → Above xs r q → ((x : X) (env : Env) (w : World) → AboveResult w.printed (f x env w) (g x env w)) → AboveResult xs (r ⊳ f) (q ⊳ g)
value_over xs r q f g (Giving x env w a) h = over_longer xs w.printed (f x env w) (g x env w) a (h x env w)
value_over xs r q f g (Ending end w a) h = SameResult (Over end w) a
value_over xs r q f g (GoingTo w x env u a b) h = GoingResult w (g x env u) a (front_on w.printed u.printed (world_of (g x env u)).printed b (over_grown u.printed (f x env u) (g x env u) (h x env u)))
value_over xs r q f g (GoingOn w end u a b) h = GoingResult w (Over end u) a b

pub choice_over : (b : Bool) (xs : List ℕ) (r q t u : Result Env) → AboveResult xs r t → AboveResult xs q u → AboveResult xs (if b then r else q) (if b then t else u)
choice_over true xs r q t u h i = h
choice_over false xs r q t u h i = i

pub choice_above : {X : Type 0} (b : Bool) (xs : List ℕ) (r q t u : Outcome X) → Above xs r t → Above xs q u → Above xs (if b then r else q) (if b then t else u)
choice_above true xs r q t u h i = h
choice_above false xs r q t u h i = i

pub leave_over : (xs : List ℕ) (r q : Result Env) → AboveResult xs r q → AboveResult xs (leave_switch r) (leave_switch q)
leave_over xs r q (SameResult (At Next e w) a) = SameResult (At Next e w) a
leave_over xs r q (SameResult (At Leaves e w) a) = SameResult (At Next e w) a
leave_over xs r q (SameResult (At Skips e w) a) = SameResult (At Skips e w) a
leave_over xs r q (SameResult (At Returns e w) a) = SameResult (At Returns e w) a
leave_over xs r q (SameResult (Over end w) a) = SameResult (Over end w) a
leave_over xs r q (GoingResult w (At Next e u) a b) = GoingResult w (At Next e u) a b
leave_over xs r q (GoingResult w (At Leaves e u) a b) = GoingResult w (At Next e u) a b
leave_over xs r q (GoingResult w (At Skips e u) a b) = GoingResult w (At Skips e u) a b
leave_over xs r q (GoingResult w (At Returns e u) a b) = GoingResult w (At Returns e u) a b
leave_over xs r q (GoingResult w (Over end u) a b) = GoingResult w (Over end u) a b
