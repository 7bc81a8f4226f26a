-- The two laws: what is read is spelled so, and what is spelled so is read.
use Rattle.std.proofs.Common.{◌≡◌, ℕ, suc, ◌-◌, ◌^◌, ◌<◌, true, eqb, List, ◌∷◌, ◌++◌, length, None, Ok, refl, sym, ap, subst, ◌∙◌, append_assoc, arith, inl, inr, [], lit≤}
use Rattle.std.specs.List.{flat_map, AllByRecursion}
use Rattle.std.proofs.lemmas.Bool.{eqb-true, cases_eq, cases_order}
use Rattle.std.proofs.lemmas.List.{append-nil, nil_from_length}
use Rattle.std.proofs.lemmas.List.Elements.{All-from_recursion, recursion_from_All}
use Rattle.dae_image.specs.declared.LineMark.{LineMark}
use Rattle.dae_image.specs.declared.header.ImageHeader.{ImageHeader}
use Rattle.dae_image.specs.declared.fault.ImageError.TheVariants as errors
use Rattle.dae_image.specs.Ranges.{IsIn, version_range}
use Rattle.dae_image.specs.Contents.{ImageContents, header, HeaderFits, Fits, are_lines}
use Rattle.dae_image.specs.Spelling.{numbers, line, name, body, Spells}
use Rattle.dae_image.specs.Reading.{bytes_at, words_at, lines_at, names_at, header_at, body_at, image_at}
use Rattle.dae_image.proofs.FieldLaws.{IsBytes, step, holds_ok, ok_is, Takes, Takes-then}
use Rattle.dae_image.proofs.HeaderLaws.{bind_again, head, header_takes, header_again}
use Rattle.dae_image.proofs.BodyLaws.{bytes_take, bytes_again, words_take, words_again, lines_take, lines_again, names_take, names_again}

-- ---- the body

pub record BodyRead (h : ImageHeader) (bytes : List ℕ) (c : ImageContents) (rest : List ℕ) : Type 0 where
  pub takes : Takes bytes (body c) rest
  pub same : header c ≡ h
  pub fits : Fits c

-- bytes, one by one
AllBytes : (bytes : List ℕ) → IsBytes bytes → AllByRecursion (λ b. b < 256) bytes
AllBytes [] fits = tt
AllBytes (b ∷ bytes) fits = (fits 0, AllBytes bytes (λ i. fits (suc i)))

counts_same : (h : ImageHeader) (a e c l n : ℕ) → a ≡ h.words_a → e ≡ h.words_e → c ≡ h.content → l ≡ h.lines → n ≡ h.names → record h { words_a = a; words_e = e; content = c; lines = l; names = n } ≡ h
counts_same h a e c l n a-is e-is c-is l-is n-is = rw (a-is, e-is, c-is, l-is, n-is) refl

pub body_takes : (whole : ℕ) (h : ImageHeader) (bytes : List ℕ) (c : ImageContents × List ℕ) → HeaderFits h → IsBytes bytes → body_at whole h bytes ≡ Ok c → BodyRead h bytes c.0 c.1
unfolding body_at
body_takes whole h bytes c head-fits fits e =
    step (words_at whole h.words_a bytes) _ c e (λ a a-is e1.
    let a-read = words_take whole h.words_a bytes a fits a-is in
    step (words_at whole h.words_e a.1) _ c e1 (λ x x-is e2.
    let x-read = words_take whole h.words_e a.1 x a-read.takes.fits x-is in
    step (bytes_at whole h.content x.1) _ c e2 (λ d d-is e3.
    let d-read = bytes_take whole h.content x.1 d x-read.takes.fits d-is in
    step (lines_at whole h None h.lines d.1) _ c e3 (λ l l-is e4.
    let l-read = lines_take whole h None h.lines d.1 l d-read.takes.fits l-is in
    step (names_at whole h.names l.1) _ c e4 (λ n n-is e5.
    let n-read = names_take whole h.names l.1 n l-read.takes.fits n-is in
    let t4 = Takes-then d.1 (flat_map line l.0) l.1 (flat_map name n.0) n.1 l-read.takes n-read.takes in
    let t3 = Takes-then x.1 d.0 d.1 _ n.1 d-read.takes t4 in
    let t2 = Takes-then a.1 (numbers x.0) x.1 _ n.1 x-read.takes t3 in
    let t1 = Takes-then bytes (numbers a.0) a.1 _ n.1 a-read.takes t2 in
    let same = counts_same h (length a.0) (length x.0) (length d.0) (length l.0) (length n.0) a-read.count x-read.count d-read.count l-read.count n-read.count in
    subst (λ (y : ImageContents × List ℕ). BodyRead h bytes y.0 y.1) (ok_is _ c e5) (record {
      takes = t1;
      same = same;
      fits = record {
        head = subst HeaderFits (sym same) head-fits;
        code_a = All-from_recursion (λ w. w < 2 ^ 32) a.0 a-read.small;
        code_e = All-from_recursion (λ w. w < 2 ^ 32) x.0 x-read.small;
        content = All-from_recursion (λ b. b < 256) d.0 (AllBytes d.0 d-read.small);
        lines = subst (λ (k : ImageHeader). are_lines k None l.0 ≡ true) (sym same) l-read.good;
        numbers = All-from_recursion (λ (m : LineMark). m.line < 2 ^ 32) l.0 l-read.small;
        names = n-read.good;
      };
    }))))))

-- the parts that were read make the whole
pub body_of : (whole : ℕ) (h : ImageHeader) (bytes : List ℕ) (a x d : List ℕ × List ℕ) (l : List LineMark × List ℕ) (n : List (List ℕ) × List ℕ) → words_at whole h.words_a bytes ≡ Ok a → words_at whole h.words_e a.1 ≡ Ok x → bytes_at whole h.content x.1 ≡ Ok d → lines_at whole h None h.lines d.1 ≡ Ok l → names_at whole h.names l.1 ≡ Ok n
    → body_at whole h bytes ≡ Ok (record { budget = h.budget; memory = h.memory; calls = h.calls; private_a = h.private_a; private_e = h.private_e; entry_a = h.entry_a; entry_e = h.entry_e; code_a = a.0; code_e = x.0; content = d.0; lines = l.0; names = n.0 }, n.1)
unfolding body_at
body_of whole h bytes a x d l n a-is x-is d-is l-is n-is = bind_again _ _ a _ a-is (bind_again _ _ x _ x-is (bind_again _ _ d _ d-is (bind_again _ _ l _ l-is (bind_again _ _ n _ n-is refl))))

pub body_again : (whole : ℕ) (c : ImageContents) (rest : List ℕ) → Fits c → body_at whole (header c) (body c ++ rest) ≡ Ok (c, rest)
unfolding body_at
body_again whole c rest fits =
    let r4 : List ℕ = flat_map name c.names ++ rest in
    let r3 : List ℕ = flat_map line c.lines ++ r4 in
    let r2 : List ℕ = c.content ++ r3 in
    let r1 : List ℕ = numbers c.code_e ++ r2 in
    let read : body_at whole (header c) (numbers c.code_a ++ r1) ≡ Ok (c, rest) =
    bind_again _ _ (c.code_a, r1) _ (words_again whole c.code_a r1 (recursion_from_All (λ w. w < 2 ^ 32) c.code_a fits.code_a))
    (bind_again _ _ (c.code_e, r2) _ (words_again whole c.code_e r2 (recursion_from_All (λ w. w < 2 ^ 32) c.code_e fits.code_e))
    (bind_again _ _ (c.content, r3) _ (bytes_again whole (length c.content) c.content r3 refl)
    (bind_again _ _ (c.lines, r4) _ (lines_again whole (header c) None c.lines r4 fits.head fits.lines (recursion_from_All (λ (m : LineMark). m.line < 2 ^ 32) c.lines fits.numbers))
    (bind_again _ _ (c.names, rest) _ (names_again whole c.names rest fits.names) refl)))) in
    ap (body_at whole (header c)) (simp append_assoc) ∙ read

-- ---- the image

-- the spelling in a version
abbrev pub spelling : ℕ → ImageContents → List ℕ
spelling v c = numbers (head v (header c)) ++ body c

two : (v : ℕ) → IsIn version_range v → (v ≡ 1 → ⊥) → v ≡ 2
two v is_version other = elim (cases_order v 2) [
  | inl same ↦ same
  | inr apart ↦ elim apart [ inl less ↦ absurd (other (omega (arith, less, is_version))) | inr more ↦ absurd (omega (arith, more, is_version)) ]
]

pub spells : (bytes : List ℕ) (v : ℕ) (c : ImageContents) → IsIn version_range v → (v ≡ 1 → c.budget.cq ≡ 0) → bytes ≡ spelling v c → Spells bytes c
spells bytes v c is_version old text =
    elim (cases_eq v 1) [
      | inl one ↦ inr (old one, text ∙ ap (λ (k : ℕ). spelling k c) one)
      | inr other ↦ inl (text ∙ ap (λ (k : ℕ). spelling k c) (two v is_version other))
    ]

pub image_takes : (bytes : List ℕ) (c : ImageContents) → IsBytes bytes → image_at bytes ≡ Ok c → Fits c × Spells bytes c
unfolding image_at
image_takes bytes c fits e =
    step (header_at (length bytes) bytes) _ c e (λ h h-is e1.
    let h-read = header_takes (length bytes) bytes h fits h-is in
    step (body_at (length bytes) h.0 h.1) _ c e1 (λ b b-is e2.
    let b-read = body_takes (length bytes) h.0 h.1 b h-read.fits h-read.takes.fits b-is in
    let g = holds_ok (eqb (length b.1) 0) (errors.Trailing (length bytes - length b.1)) b.0 c e2 in
    let nothing : b.1 ≡ [] = nil_from_length b.1 (eqb-true _ _ g.0) in
    let both = (Takes-then bytes (numbers (head h-read.version h.0)) h.1 (body b.0) b.1 h-read.takes b-read.takes).parts in
    let text : bytes ≡ spelling h-read.version b.0 = both ∙ ap (λ (r : List ℕ). (numbers (head h-read.version h.0) ++ body b.0) ++ r) nothing ∙ append-nil (numbers (head h-read.version h.0) ++ body b.0) ∙ ap (λ (k : ImageHeader). numbers (head h-read.version k) ++ body b.0) (sym b-read.same) in
    let old : h-read.version ≡ 1 → b.0.budget.cq ≡ 0 = λ one. ap (λ (k : ImageHeader). k.budget.cq) b-read.same ∙ h-read.old one in
    subst (λ (x : ImageContents). Fits x × Spells bytes x) g.1 (b-read.fits, spells bytes h-read.version b.0 h-read.is_version old text)))

again_in : (v : ℕ) (c : ImageContents) → IsIn version_range v → (v ≡ 1 → c.budget.cq ≡ 0) → Fits c → image_at (spelling v c) ≡ Ok c
unfolding image_at
again_in v c is_version old fits =
    let whole = length (spelling v c) in
    let text : spelling v c ≡ numbers (head v (header c)) ++ (body c ++ []) = ap (λ (t : List ℕ). numbers (head v (header c)) ++ t) (sym (append-nil (body c))) in
    bind_again _ _ (header c, body c ++ []) _ (ap (header_at whole) text ∙ header_again whole v (header c) (body c ++ []) is_version old fits.head)
    (bind_again _ _ (c, []) _ (body_again whole c [] fits) refl)

pub image_again : (bytes : List ℕ) (c : ImageContents) → Fits c → Spells bytes c → image_at bytes ≡ Ok c
image_again bytes c fits spelled =
    elim spelled [
      | inl text ↦ ap image_at text ∙ again_in 2 c (lit≤ tt, lit≤ tt, refl) (λ one. absurd cc) fits
      | inr old ↦ ap image_at old.1 ∙ again_in 1 c (lit≤ tt, lit≤ tt, refl) (λ one. old.0) fits
    ]
