-- What goes on alike in one world ends alike.
use Rattle.std.proofs.Common.{ℕ, Option, refl, subst}
use Rattle.dae_meaning.specs.Worlds.{World, ticked}
use Rattle.dae_meaning.specs.Results.{End, Way, At, Over, Run, ◌▷◌, turns, Result, within}
use Rattle.dae_meaning.specs.Alike.{Alike, BothAt, BothOver, Alikes, Same}
use Rattle.dae_meaning.proofs.Laws.{bind_alike as bind, turns_alike as turn, within_both as both_within, within_one as one_within}

module _ {E F : Type 0} (Q : E → F → Type 0) where
  abbrev pub Ends : Result E → Result F → Type 0
  Ends r s = Alike Q Same r s

  abbrev pub Goes : Run E → Run F → Type 0
  Goes f g = (e : E) (x : F) (w : World) → Q e x → Ends (f e w) (g x w)

  pub both : (way : Way) (e : E) (x : F) (w : World) → Q e x → Ends (At way e w) (At way x w)
  both way e x w q = BothAt way e x w w q refl

  pub over : (end : End) (w : World) → Ends (Over end w) (Over end w)
  over end w = BothOver end w w refl

  any : (f : Run E) (g : Run F) → Goes f g → Alikes Q Same f g
  any f g h e x w u q l = subst (λ v. Ends (f e w) (g x v)) l (h e x w q)

  pub bind_alike : (r : Result E) (s : Result F) (f : Run E) (g : Run F) → Ends r s → Goes f g → Ends (r ▷ f) (s ▷ g)
  bind_alike r s f g h k = bind Q Same r s f g h (any f g k)

  pub within_both : (o : Option ℕ) (w : World) (r : Result E) (s : Result F) → Ends r s → Ends (within o w r) (within o w s)
  within_both o w r s h = both_within Q Same o w w r s h

  pub within_one : (o : Option ℕ) (w : World) (r : Result E) (s : Result F) → Ends r s → Ends (within o w r) s
  within_one o w r s h = one_within Q Same o w r s h

  ticks : (w u : World) → Same w u → Same (ticked w) (ticked u)
  ticks w u l = subst (λ v. Same (ticked w) (ticked v)) l refl

  pub turns_alike : (b c : Run E) (b' c' : Run F) → Goes b b' → Goes c c' → (n : ℕ) → Goes (turns b c n) (turns b' c' n)
  turns_alike b c b' c' hb hc n e x w q = turn Q Same ticks b c b' c' (any b b' hb) (any c c' hc) n e x w w q refl
