-- The nodes that lines make, line by line.
use Rattle.std.proofs.Common.{◌≡◌, ℕ, ◌+◌, ◌-◌, ◌<◌, List, [], ◌∷◌, ◌++◌, length, take, get_or, reverse, refl, ap, sym, ◌∙◌}
use Rattle.std.specs.Prelude.{Option}
use Rattle.std.proofs.lemmas.List.{append-nil, reverse-append, take_more}
use Rattle.dae_certificate.specs.declared.CertificateNode.{CertificateNode}
use Rattle.dae_certificate.specs.declared.lines.CertificateLine.{CertificateLine}
use Rattle.dae_certificate.specs.declared.lines.NamedRange.{NamedRange}
use Rattle.dae_certificate.specs.declared.lines.CertificateLine.TheVariants.{Node, Register}
use Rattle.dae_certificate.specs.Certificates.{with_last, open_node, with_named, nodes_of}

-- a change of the last item
pub last_changed : {X : Type 0} (f : X → X) (xs : List X) (x : X) → with_last f (xs ++ (x ∷ [])) ≡ xs ++ (f x ∷ [])
last_changed f [] x = refl
last_changed f (y ∷ []) x = refl
last_changed f (y ∷ (z ∷ zs)) x = ap (λ w. y ∷ w) (last_changed f (z ∷ zs) x)

-- the items before a place, the last one first
latest : {X : Type 0} (xs : List X) (i : ℕ) (d : X) → i < length xs → reverse (take (i + 1) xs) ≡ get_or xs i d ∷ reverse (take i xs)
latest xs i d l = ap reverse (take_more xs i d l) ∙ reverse-append (take i xs) (get_or xs i d ∷ [])

-- ---- one line more

module _ (lines : List CertificateLine) (i : ℕ) (d : CertificateLine) (old new : List CertificateNode) (within : i < length lines) (made : old ≡ nodes_of (reverse (take i lines))) where
  line_is : (l : CertificateLine) → get_or lines i d ≡ l → reverse (take (i + 1) lines) ≡ l ∷ reverse (take i lines)
  line_is l e = latest lines i d within ∙ ap (λ z. z ∷ reverse (take i lines)) e

  pub node_more : (a e : Option ℕ) (n : CertificateNode) → get_or lines i d ≡ Node a e → n ≡ open_node a e → new ≡ old ++ (n ∷ []) → new ≡ nodes_of (reverse (take (i + 1) lines))
  node_more a e n is n_is new_is =
      new_is ∙ (ap (λ z. z ++ (n ∷ [])) made
      ∙ (ap (λ z. nodes_of (reverse (take i lines)) ++ (z ∷ [])) n_is ∙ sym (ap nodes_of (line_is (Node a e) is))))

  pub register_more : (named : NamedRange) (rest : List CertificateNode) (last changed : CertificateNode) → get_or lines i d ≡ Register named → old ≡ rest ++ (last ∷ [])
      → changed ≡ with_named named last → new ≡ rest ++ (changed ∷ []) → new ≡ nodes_of (reverse (take (i + 1) lines))
  register_more named rest last changed is parts changed_is new_is =
      new_is ∙ (ap (λ z. rest ++ (z ∷ [])) changed_is
      ∙ (sym (last_changed (with_named named) rest last)
      ∙ (ap (with_last (with_named named)) (sym parts ∙ made) ∙ sym (ap nodes_of (line_is (Register named) is)))))

  pub nothing_more : (named : NamedRange) (count : ℕ) → get_or lines i d ≡ Register named → count ≡ 0 → new ≡ take (count - 1) old → old ≡ new ++ []
      → new ≡ nodes_of (reverse (take (i + 1) lines))
  nothing_more named count is none new_is parts =
      let e : new ≡ [] = new_is ∙ ap (λ k. take (k - 1) old) none in
      let f : old ≡ [] = parts ∙ (append-nil new ∙ e) in
      e ∙ (ap (with_last (with_named named)) (sym f ∙ made) ∙ sym (ap nodes_of (line_is (Register named) is)))
