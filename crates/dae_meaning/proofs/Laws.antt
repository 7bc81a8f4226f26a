-- Laws for the crates above: what ends alike goes on alike, and what each step of a world keeps is kept by whole stretches.
use Rattle.std.proofs.Common.{◌≡◌, ℕ, zero, suc, ◌+◌, Bool, true, false, if◌then◌else◌, nat_eq, List, [], ◌++◌, Option, Some, None, refl, ap, sym, ◌∙◌, subst, arith, append_assoc, append-nil}
use Rattle.std.proofs.Math.Path.{fun_ext}
use Rattle.std.proofs.lemmas.Bool.Decides.{nat_tests}
use Rattle.dae_meaning.specs.Variables.{Env, put}
use Rattle.dae_meaning.specs.Worlds.{World, KeepsMemory, ticked}
use Rattle.dae_meaning.specs.Results.{End, Halted, Trapped, Result, At, Over, Next, Leaves, Skips, Returns, Going, Astray, Run, ◌▷◌, ◌↻◌, turns, world_of, within, checked}
use Rattle.dae_meaning.specs.Alike.{Alike, BothAt, BothOver, FirstStrays, Alikes, IsFront, IsUnder, Stays, Grows}

-- ---- variables

-- a variable that gets its own word
pub own_put : (v : ℕ) (e : Env) → put true v (e v) e ≡ e
own_put v e = fun_ext (λ u. by u (nat_eq u v) refl) where
  by : (u : ℕ) (b : Bool) → nat_eq u v ≡ b → (if b then e v else e u) ≡ e u
  by u true h = let same : u ≡ v = grind (arith, nat_tests) in ap e (sym same)
  by u false h = refl

-- ---- what ends alike

module _ {E F : Type 0} (Q : E → F → Type 0) (W : World → World → Type 0) where
  pub bind_alike : (r : Result E) (s : Result F) (f : Run E) (g : Run F) → Alike Q W r s → Alikes Q W f g → Alike Q W (r ▷ f) (s ▷ g)
  bind_alike r s f g (BothAt Next e x w u q l) h = h e x w u q l
  bind_alike r s f g (BothAt Leaves e x w u q l) h = BothAt Leaves e x w u q l
  bind_alike r s f g (BothAt Skips e x w u q l) h = BothAt Skips e x w u q l
  bind_alike r s f g (BothAt Returns e x w u q l) h = BothAt Returns e x w u q l
  bind_alike r s f g (BothOver end w u l) h = BothOver end w u l
  bind_alike r s f g (FirstStrays w x) h = FirstStrays w (x ▷ g)

  pub loop_alike : (r : Result E) (s : Result F) (f : Run E) (g : Run F) → Alike Q W r s → Alikes Q W f g → Alike Q W (r ↻ f) (s ↻ g)
  loop_alike r s f g (BothAt Next e x w u q l) h = h e x w u q l
  loop_alike r s f g (BothAt Leaves e x w u q l) h = BothAt Next e x w u q l
  loop_alike r s f g (BothAt Skips e x w u q l) h = h e x w u q l
  loop_alike r s f g (BothAt Returns e x w u q l) h = BothAt Returns e x w u q l
  loop_alike r s f g (BothOver end w u l) h = BothOver end w u l
  loop_alike r s f g (FirstStrays w x) h = FirstStrays w (x ↻ g)

  -- where the first doesn't go astray, the other does the same, or may do anything
  pub within_both : (o : Option ℕ) (w u : World) (r : Result E) (s : Result F) → Alike Q W r s → Alike Q W (within o w r) (within o u s)
  within_both None w u r s h = h
  within_both (Some code) w u r s h = FirstStrays w (Over Astray u)

  pub within_one : (o : Option ℕ) (w : World) (r : Result E) (s : Result F) → Alike Q W r s → Alike Q W (within o w r) s
  within_one None w r s h = h
  within_one (Some code) w r s h = FirstStrays w s

  -- where related worlds stay so at a turn
  pub turns_alike : ((w u : World) → W w u → W (ticked w) (ticked u)) → (b c : Run E) (b' c' : Run F) → Alikes Q W b b' → Alikes Q W c c' → (n : ℕ) → Alikes Q W (turns b c n) (turns b' c' n)
  turns_alike ticks b c b' c' hb hc zero e f w u q l = BothOver Going w u l
  turns_alike ticks b c b' c' hb hc (suc n) e f w u q l =
      loop_alike (b e (ticked w)) (b' f (ticked u)) _ _ (hb e f (ticked w) (ticked u) q (ticks w u l))
      (λ e f w u q l. loop_alike (c e w) (c' f u) _ _ (hc e f w u q l) (turns_alike ticks b c b' c' hb hc n))

-- where the first is over, and not astray, the second is so too
abbrev pub IsTold : End → Type 0
IsTold (Halted status) = Unit {0}
IsTold (Trapped code) = Unit {0}
IsTold Going = Unit {0}
IsTold Astray = ⊥

module _ {E F : Type 0} (Q : E → F → Type 0) (W : World → World → Type 0) where
  Follows : Result E → Result F → Type 0
  Follows (At way e w) s = Unit {0}
  Follows (Over end w) s = IsTold end → (u : World) × (s ≡ Over end u) × W w u

  follows : (r : Result E) (s : Result F) → Alike Q W r s → Follows r s
  unfolding Follows
  follows r s (BothAt way e f w u q l) = tt
  follows r s (BothOver end w u l) = λ t. (u, refl, l)
  follows r s (FirstStrays w x) = λ t. absurd t

  pub ends_alike : (end : End) (w : World) (r : Result E) (s : Result F) → IsTold end → Alike Q W r s → r ≡ Over end w → (u : World) × (s ≡ Over end u) × W w u
  unfolding Follows
  ends_alike end w r s t h is = subst (λ (z : Result E). Follows z s) is (follows r s h) t

  pub alike_weaker : (P : E → F → Type 0) (V : World → World → Type 0) → ((e : E) (f : F) → Q e f → P e f) → ((w u : World) → W w u → V w u) → (r : Result E) (s : Result F) → Alike Q W r s → Alike P V r s
  alike_weaker P V p v r s (BothAt way e f w u q l) = BothAt way e f w u (p e f q) (v w u l)
  alike_weaker P V p v r s (BothOver end w u l) = BothOver end w u (v w u l)
  alike_weaker P V p v r s (FirstStrays w x) = FirstStrays w x

-- one after the other
module _ {E F G : Type 0} (Q : E → F → Type 0) (W : World → World → Type 0) (P : F → G → Type 0) (V : World → World → Type 0) where
  pub alike_then : (r : Result E) (s : Result F) (t : Result G) → Alike Q W r s → Alike P V s t → Alike (λ e g. (f : F) × Q e f × P f g) (λ w v. (u : World) × W w u × V u v) r t
  alike_then r s t (BothAt way e f w u q l) (BothAt way2 f2 g u2 v p k) = BothAt way2 e g w v (f2, q, p) (u2, l, k)
  alike_then r s t (BothOver end w u l) (BothOver end2 u2 v k) = BothOver end2 w v (u2, l, k)
  alike_then r s t (BothOver end w u l) (FirstStrays u2 x) = FirstStrays w x
  alike_then r s t (FirstStrays w x) k = FirstStrays w t

-- ---- what holds from step to step

-- a relation of an earlier world to a later one
pub record IsCourse (P : World → World → Type 0) : Type 0 where
  pub same : (w : World) → P w w
  pub on : (w u v : World) → P w u → P u v → P w v
  pub tick : (w : World) → P w (ticked w)

-- it holds along a stretch
abbrev pub Along : {E : Type 0} → (World → World → Type 0) → Run E → Type 0
Along {E} P r = (e : E) (w : World) → P w (world_of (r e w))

module _ {E : Type 0} (P : World → World → Type 0) (c : IsCourse P) where
  pub bind_along : (w : World) (r : Result E) (f : Run E) → P w (world_of r) → Along P f → P w (world_of (r ▷ f))
  bind_along w (At Next e u) f h g = c.on w u _ h (g e u)
  bind_along w (At Leaves e u) f h g = h
  bind_along w (At Skips e u) f h g = h
  bind_along w (At Returns e u) f h g = h
  bind_along w (Over end u) f h g = h

  pub loop_along : (w : World) (r : Result E) (f : Run E) → P w (world_of r) → Along P f → P w (world_of (r ↻ f))
  loop_along w (At Next e u) f h g = c.on w u _ h (g e u)
  loop_along w (At Leaves e u) f h g = h
  loop_along w (At Skips e u) f h g = c.on w u _ h (g e u)
  loop_along w (At Returns e u) f h g = h
  loop_along w (Over end u) f h g = h

  pub turns_along : (b s : Run E) → Along P b → Along P s → (n : ℕ) → Along P (turns b s n)
  turns_along b s hb hs zero e w = c.same w
  turns_along b s hb hs (suc n) e w =
      loop_along w (b e (ticked w)) _ (c.on w (ticked w) _ (c.tick w) (hb e (ticked w)))
      (λ e u. loop_along u (s e u) _ (hs e u) (turns_along b s hb hs n))

  pub choice_along : (d : Bool) (w : World) (r s : Result E) → P w (world_of r) → P w (world_of s) → P w (world_of (if d then r else s))
  choice_along true w r s h k = h
  choice_along false w r s h k = k

  pub within_along : (o : Option ℕ) (w : World) (r : Result E) → P w (world_of r) → P w (world_of (within o w r))
  within_along None w r h = h
  within_along (Some code) w r h = c.same w

  pub checked_along : (o : Option ℕ) → Along P (checked {E = E} o)
  checked_along None e w = c.same w
  checked_along (Some code) e w = c.same w

-- ---- what is printed

abbrev pub Prints : World → World → Type 0
Prints w u = IsFront w.printed u.printed

pub front_same : (xs : List ℕ) → IsFront xs xs
front_same xs = ([], sym (append-nil xs))

pub front_on : (xs ys zs : List ℕ) → IsFront xs ys → IsFront ys zs → IsFront xs zs
front_on xs ys zs a b = (a.0 ++ b.0, b.1 ∙ ap (λ l. l ++ b.0) a.1 ∙ append_assoc xs a.0 b.0)

pub prints : IsCourse Prints
prints = record {
  same = λ w. front_same w.printed;
  on = λ w u v. front_on w.printed u.printed v.printed;
  tick = λ w. front_same w.printed;
}

-- ---- what more turns do

abbrev pub AreUnder : {E : Type 0} → Run E → Run E → Type 0
AreUnder {E} r s = (e : E) (w : World) → IsUnder (r e w) (s e w)

module _ {E : Type 0} where
  pub bind_under : (r s : Result E) (f g : Run E) → IsUnder r s → AreUnder f g → Along Prints g → IsUnder (r ▷ f) (s ▷ g)
  bind_under r s f g (Stays (At Next e w)) u h = u e w
  bind_under r s f g (Stays (At Leaves e w)) u h = Stays (At Leaves e w)
  bind_under r s f g (Stays (At Skips e w)) u h = Stays (At Skips e w)
  bind_under r s f g (Stays (At Returns e w)) u h = Stays (At Returns e w)
  bind_under r s f g (Stays (Over end w)) u h = Stays (Over end w)
  bind_under r s f g (Grows w t k) u h = Grows w (t ▷ g) (bind_along Prints prints w t g k h)

  pub loop_under : (r s : Result E) (f g : Run E) → IsUnder r s → AreUnder f g → Along Prints g → IsUnder (r ↻ f) (s ↻ g)
  loop_under r s f g (Stays (At Next e w)) u h = u e w
  loop_under r s f g (Stays (At Leaves e w)) u h = Stays (At Next e w)
  loop_under r s f g (Stays (At Skips e w)) u h = u e w
  loop_under r s f g (Stays (At Returns e w)) u h = Stays (At Returns e w)
  loop_under r s f g (Stays (Over end w)) u h = Stays (Over end w)
  loop_under r s f g (Grows w t k) u h = Grows w (t ↻ g) (loop_along Prints prints w t g k h)

  pub turns_under : (b c b' c' : Run E) → AreUnder b b' → AreUnder c c' → Along Prints b' → Along Prints c' → (n : ℕ) → AreUnder (turns b c n) (turns b' c' (suc n))
  turns_under b c b' c' ub uc hb hc zero e w = Grows w _ (turns_along Prints prints b' c' hb hc 1 e w)
  turns_under b c b' c' ub uc hb hc (suc n) e w =
      loop_under (b e (ticked w)) (b' e (ticked w)) _ _ (ub e (ticked w))
      (λ e w. loop_under (c e w) (c' e w) _ _ (uc e w) (turns_under b c b' c' ub uc hb hc n) (turns_along Prints prints b' c' hb hc (suc n)))
      (λ e w. loop_along Prints prints w (c' e w) _ (hc e w) (turns_along Prints prints b' c' hb hc (suc n)))

  pub choice_under : (d : Bool) (r s r' s' : Result E) → IsUnder r r' → IsUnder s s' → IsUnder (if d then r else s) (if d then r' else s')
  choice_under true r s r' s' h k = h
  choice_under false r s r' s' h k = k

  pub within_under : (o : Option ℕ) (w : World) (r s : Result E) → IsUnder r s → IsUnder (within o w r) (within o w s)
  within_under None w r s h = h
  within_under (Some code) w r s h = Stays _

-- ---- the memory

pub keeps_memory : IsCourse KeepsMemory
keeps_memory = record {
  same = λ w. record { size = refl; bytes = λ h. h };
  on = λ w u v a b. record { size = b.size ∙ a.size; bytes = λ h. b.bytes (a.bytes h) };
  tick = λ w. record { size = refl; bytes = λ h. h };
}
