-- How often variables stand in a list.
use Rattle.std.proofs.Common.{◌≡◌, ◌≢◌, ℕ, zero, suc, ◌+◌, ◌<◌, true, false, not, List, [], ◌∷◌, ◌++◌, length, get_or, take, drop, nat_eq, refl, ap, sym, ◌∙◌, arith}
use Rattle.std.proofs.lemmas.Bool.Decides.{nat_tests}
use Rattle.dae_base.proofs.Laws.{same_number}
use Rattle.dae_lower_maker.specs.Counting.{MarkCounts, both, count_in, is_counted, once}

once_at : (v : ℕ) → once v v ≡ 1
once_at v = rw (same_number v) refl

once_elsewhere : (u v : ℕ) → u ≢ v → once u v ≡ 0
once_elsewhere u v other = grind (arith, nat_tests)

-- ---- one more

pushed_at : (us : List ℕ) (v u : ℕ) → count_in (us ++ v ∷ []) u ≡ count_in us u + once v u
pushed_at [] v u = omega arith
pushed_at (x ∷ us) v u = let h = pushed_at us v u in omega (arith, h)

pub pushed : (us new : List ℕ) (v : ℕ) → new ≡ us ++ v ∷ [] → count_in new ≡ both (count_in us) (once v)
pushed us new v is = ap count_in is ∙ (λ i u. pushed_at us v u i)

-- ---- one fewer

removed_at : (us : List ℕ) (i v u : ℕ) → i < length us → get_or us i 0 ≡ v → count_in us u ≡ count_in (take i us ++ drop (suc i) us) u + once v u
removed_at [] i v u lt is = absurd (omega (arith, lt))
removed_at (x ∷ us) zero v u lt is = let e : once x u ≡ once v u = ap (λ (w : ℕ). once w u) is in omega (arith, e)
removed_at (x ∷ us) (suc i) v u lt is = let h = removed_at us i v u (omega (arith, lt)) is in omega (arith, h)

left_over : (a b k : ℕ) → a ≡ b + k → (rest : ℕ) → a ≡ rest + k → b ≡ rest
left_over a b k e rest h = omega (arith, e, h)

pub removed : (us new : List ℕ) (i v : ℕ) → i < length us → get_or us i 0 ≡ v → new ≡ take i us ++ drop (suc i) us → (rest : MarkCounts) → count_in us ≡ both rest (once v) → count_in new ≡ rest
removed us new i v lt is e rest all =
    ap count_in e ∙ (λ j u. left_over (count_in us u) (count_in (take i us ++ drop (suc i) us) u) (once v u) (removed_at us i v u lt is) (rest u) (ap (λ (c : MarkCounts). c u) all) j)

-- ---- whether there is one

pub some_counted : (us : List ℕ) (i v : ℕ) → i < length us → get_or us i 0 ≡ v → true ≡ is_counted (count_in us) v
some_counted us i v lt is =
    let h = removed_at us i v v lt is in let one = once_at v in
    let some : count_in us v ≢ 0 = omega (arith, h, one) in
    grind (arith, nat_tests)

pub none_counted : (us : List ℕ) (v : ℕ) → ((k : ℕ) → k < length us → get_or us k 0 ≢ v) → count_in us v ≡ 0
none_counted [] v other = refl
none_counted (x ∷ us) v other =
    let here = once_elsewhere x v (other 0 (omega arith)) in
    let rest = none_counted us v (λ k lt. other (suc k) (omega (arith, lt))) in
    omega (arith, here, rest)

pub not_counted : (c : MarkCounts) (v : ℕ) → c v ≡ 0 → false ≡ is_counted c v
not_counted c v none = ap (λ (n : ℕ). not (nat_eq n 0)) (sym none)

-- what isn't there isn't removed
pub never_removed : {A : Type 0} (us : List ℕ) (v : ℕ) → count_in us v ≡ 0 → (rest : MarkCounts) → count_in us ≡ both rest (once v) → A
never_removed us v none rest all = absurd (let e = ap (λ (c : MarkCounts). c v) all in let one = once_at v in omega (arith, none, e, one))
