-- The links of a call's arguments, from one on.
use Rattle.std.proofs.Common.{◌≡◌, ◌↔◌, ℕ, ◌+◌, ◌<◌, ◌≤◌, true, List, length, drop, get_or}
use Rattle.std.proofs.lemmas.List.{drop_all, drop_more}
use Rattle.dae_ir.specs.Classes.{has, ArgumentsKept, CallKept}
use Rattle.dae_ir.specs.declared.form.Operand.{Operand}
use Rattle.dae_slice.specs.Graphs.{Family, Keeps, IsLike, Adds}
use Rattle.dae_slice.specs.declared.graph.Graph.{Graph}
use Rattle.dae_slice.proofs.Adds.{like_both, adds_both, adds_as}

-- with R what is still to be added, and with P all
pub record Reaches (P R : Family → Type 0) (old new : Graph) : Type 0 where
  pub like : IsLike old new
  pub keeps : (c : Family) → (Keeps new c × R c) ↔ (Keeps old c × P c)

-- R is Q and the next R
pub reach_next : (P R Q S : Family → Type 0) (a b c : Graph) → ((s : Family) → R s ↔ (Q s × S s)) → Reaches P R a b → Adds Q b c → Reaches P S a c
reach_next P R Q S a b c e h k = record {
  like = like_both a b c h.like k.like;
  keeps = λ s. (
    λ x. let y = (k.keeps s).0 x.0 in (h.keeps s).0 (y.0, (e s).1 (y.1, x.1)),
    λ x. let y = (h.keeps s).1 x in let z = (e s).0 y.1 in ((k.keeps s).1 (y.0, z.0), z.1),
  );
}

pub reach_last : (P R : Family → Type 0) (a b : Graph) → ((s : Family) → R s) → Reaches P R a b → Adds P a b
reach_last P R a b all h = record {
  like = h.like;
  keeps = λ s. (λ x. (h.keeps s).0 (x, all s), λ x. ((h.keeps s).1 x).0);
}

abbrev pub From : ℕ → ℕ → ℕ → List Operand → Family → Type 0
From callee f k xs c = ArgumentsKept (c callee) (c f) k xs

pub argument_linked : (callee f i : ℕ) (xs : List Operand) (d : Operand) (a b c : Graph) → i < length xs
    → Reaches (From callee f 1 xs) (From callee f (i + 1) (drop i xs)) a b
    → Adds (λ s. s callee (i + 1) ≡ true → has (s f) (get_or xs i d) ≡ true) b c
    → Reaches (From callee f 1 xs) (From callee f (i + 1 + 1) (drop (i + 1) xs)) a c
argument_linked callee f i xs d a b c lt h k =
    reach_next (From callee f 1 xs) (From callee f (i + 1) (drop i xs)) (λ s. s callee (i + 1) ≡ true → has (s f) (get_or xs i d) ≡ true) (From callee f (i + 1 + 1) (drop (i + 1) xs)) a b c
    (λ s. rw (drop_more xs i d lt) (λ p. (p.0, p.1), λ p. (p.0, p.1))) h k

pub arguments_linked : (callee f i : ℕ) (xs : List Operand) (a b : Graph) → length xs ≤ i
    → Reaches (From callee f 1 xs) (From callee f (i + 1) (drop i xs)) a b → Adds (From callee f 1 xs) a b
arguments_linked callee f i xs a b le h = reach_last (From callee f 1 xs) (From callee f (i + 1) (drop i xs)) a b (λ s. rw (drop_all i xs le) tt) h

pub call_linked : (callee f v : ℕ) (xs : List Operand) (a b c : Graph) → Adds (From callee f 1 xs) a b → Adds (λ s. s f v ≡ true → s callee 0 ≡ true) b c → Adds (λ s. CallKept (s callee) (s f) v xs) a c
call_linked callee f v xs a b c h k =
    adds_as (λ s. From callee f 1 xs s × (s f v ≡ true → s callee 0 ≡ true)) (λ s. CallKept (s callee) (s f) v xs) a c
    (λ s. (λ p. record { arguments = p.0; result = p.1 }, λ p. (p.arguments, p.result)))
    (adds_both (From callee f 1 xs) (λ s. s f v ≡ true → s callee 0 ≡ true) a b c h k)
