-- Each web is of one variable.
use Rattle.std.proofs.Common.{◌≡◌, ℕ, ◌<◌, ◌≤◌, true, Option, Some, None, inl, inr, refl, sym, ◌∙◌, subst, arith}
use Rattle.std.proofs.lemmas.Bool.{eqb-true}
use Rattle.dae_ir.specs.Form.{Form}
use Rattle.dae_webs.specs.Current.{Current, web_of, or_own, written_as, own_webs}
use Rattle.dae_webs.specs.Renamed.{Starts, web_set, webs_next, without_both, at_second, at_rest}
use Rattle.dae_webs.specs.Known.{Owns, IsDefined, IsDefinedNext}
use Rattle.dae_webs.proofs.Tables.{set_some, own_at}
use Rattle.dae_webs.proofs.Inside.{both_some, second_at, rest_at}

module _ (owner : ℕ → ℕ) (limit : ℕ) where
  abbrev pub IsOf : ℕ → ℕ → Type 0
  IsOf u v = (owner u ≡ v) × (u < limit)

  -- what has a web has one of its own
  abbrev pub AreOwned : Current → Type 0
  AreOwned m = (v u : ℕ) → web_of m v ≡ Some u → IsOf u v

  pub owned_both : (b : Starts) (n : ℕ) (p q : Form) (m : Current) → AreOwned m → AreOwned (without_both b n p q m)
  owned_both b n p q m o v u e = o v u (both_some b n p q m v u e).2

  pub owned_second : (b : Starts) (n : ℕ) (p q : Form) (m : Current) → AreOwned m → AreOwned (at_second b n p q (without_both b n p q m))
  owned_second b n p q m o v u e = owned_both b n p q m o v u (sym (second_at b n p q m v) ∙ e)

  pub owned_rest : (b : Starts) (n : ℕ) (p q : Form) (m : Current) → AreOwned m → AreOwned (at_rest b n p q (without_both b n p q m))
  owned_rest b n p q m o v u e = owned_both b n p q m o v u (sym (rest_at b n p q m v) ∙ e)

  module _ (own : ℕ) (few : own ≤ limit) (kept : (v : ℕ) → v < own → owner v ≡ v) where
    pub owned_start : AreOwned (own_webs 0 own)
    owned_start v u e =
        let h = own_at 0 own v u e in
        let a = h.0 in
        let c = h.1 in
        let same : v ≡ u = omega (arith, a) in
        (subst (λ (x : ℕ). owner x ≡ v) same (kept v c), omega (arith, a, c, few))

    -- as what a variable is written
    pub written_owned : (m : Current) → AreOwned m → (v : ℕ) → v < own → IsOf (written_as m v) v
    written_owned m o v lt = by (web_of m v) refl where
      by : (x : Option ℕ) → web_of m v ≡ x → IsOf (or_own v x) v
      by None e = (kept v lt, omega (arith, lt, few))
      by (Some u) e = o v u e

    module _ (owns : Owns) (owned : (u v : ℕ) → owns u v ≡ true → IsOf u v) where
      pub set_owned : (o : Option ℕ) (m : Current) → AreOwned m → (v : ℕ) → v < own → IsDefined owns o m v → IsOf (web_set o m v) v
      set_owned None m all v lt d = written_owned m all v lt
      set_owned (Some u) m all v lt d = owned u v d

      pub owned_next : (o d : Option ℕ) (m : Current) → AreOwned m → IsDefinedNext owns o m d → AreOwned (webs_next o m d)
      owned_next o None m all h v u e = all v u e
      owned_next None (Some w) m all h v u e = all v u e
      owned_next (Some x) (Some w) m all h v u e =
          elim (set_some m w x v u e) [
            | inl is ↦ (let i = owned x w h in
                let same : v ≡ w = eqb-true v w is.0 in
                subst (λ (y : ℕ). IsOf y v) is.1 (subst (λ (y : ℕ). IsOf x y) (sym same) i))
            | inr is ↦ all v u is.1
          ]
