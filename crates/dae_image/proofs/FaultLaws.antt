-- Which faults reading can give: the number of a `Short` is that of all bytes, and a `Trailing` comes behind a whole image.
use Rattle.std.proofs.Common.{◌≡◌, ℕ, zero, suc, ◌+◌, ◌-◌, ◌*◌, ◌<◌, Bool, true, false, cond, ltb, eqb, List, ◌++◌, length, take, drop, Option, Some, None, Result, Ok, Err, refl, sym, ap, subst, ◌∙◌, append_assoc, arith, ◌⊎◌, inl, inr, lit≤}
use Rattle.std.specs.Int.{w32, from_le_bytes}
use Rattle.std.specs.Option.{ok_or}
use Rattle.std.specs.Str.{is_utf8}
use Rattle.std.proofs.lemmas.Bool.{eqb-false, ne_eqb}
use Rattle.std.proofs.lemmas.List.{take_at, take-append-drop, length-append, length-take, length-drop}
use Rattle.dae_image.specs.declared.LineMark.{LineMark}
use Rattle.dae_image.specs.declared.header.ImageHeader.{ImageHeader}
use Rattle.dae_image.specs.declared.fields.FieldRange.{FieldRange}
use Rattle.dae_image.specs.declared.fault.Field.{Field}
use Rattle.dae_image.specs.declared.fault.Field.TheVariants as fields
use Rattle.dae_image.specs.declared.fault.ImageError.{ImageError}
use Rattle.dae_image.specs.declared.fault.ImageError.TheVariants as errors
use Rattle.dae_image.specs.Ranges.{IsIn, is_in, magic_range, version_range, depth_range, memory_range, calls_range, private_range, entry_range, words_range, content_range, line_count_range, name_count_range, name_range}
use Rattle.dae_image.specs.Contents.{ImageContents, header, Fits}
use Rattle.dae_image.specs.Spelling.{numbers, body, Spells}
use Rattle.dae_image.specs.Reading.{◌>>=◌, number_at, field_at, version_at, copies_at, budget_at, header_at, bytes_at, words_at, mark_of, line_at, lines_at, name_at, names_at, body_at, image_at}
use Rattle.dae_image.proofs.FieldLaws.{IsBytes, done, Takes-then}
use Rattle.dae_image.proofs.HeaderLaws.{bind_again, head, header_takes, header_again}
use Rattle.dae_image.proofs.ImageLaws.{body_takes, body_again, spelling, spells}

-- a fault that a field of so many bytes may have
abbrev pub IsFault : ℕ → ImageError → Type 0
IsFault whole (errors.Short n) = n ≡ whole
IsFault whole (errors.BadField field offset) = Unit {0}
IsFault whole (errors.Trailing offset) = ⊥
IsFault whole errors.Memory = ⊥

-- a reader with no other fault
pub record Faults {A : Type 0} (whole : ℕ) (r : Result A ImageError) : Type 0 where
  pub only : (e : ImageError) → r ≡ Err e → IsFault whole e

fault-done : {A : Type 0} (whole : ℕ) (x : A) → Faults whole (done x)
fault-done whole x = record { only = λ e h. absurd cc }

fault-is : {A : Type 0} (whole : ℕ) (e d : ImageError) (r : Result A ImageError) → r ≡ Err e → IsFault whole e → r ≡ Err d → IsFault whole d
fault-is whole e d r a h b = let same : e ≡ d = cc in subst (λ (x : ImageError). IsFault whole x) same h

fault-short : {A : Type 0} (whole : ℕ) (b : Bool) (x : A) → Faults whole (cond b (Err (errors.Short whole)) (done x))
fault-short whole true x = record { only = λ e h. fault-is whole (errors.Short whole) e (Err (errors.Short whole)) refl refl h }
fault-short whole false x = fault-done whole x

fault-bad : {A : Type 0} (whole : ℕ) (b : Bool) (field : Field) (offset : ℕ) (x : A) → Faults whole (cond b (done x) (Err (errors.BadField field offset)))
fault-bad whole true field offset x = fault-done whole x
fault-bad whole false field offset x = record { only = λ e h. fault-is whole (errors.BadField field offset) e (Err (errors.BadField field offset)) refl tt h }

fault-ok_or : {A : Type 0} (whole : ℕ) (o : Option A) (field : Field) (offset : ℕ) → Faults whole (ok_or o (errors.BadField field offset))
fault-ok_or whole (Some x) field offset = fault-done whole x
fault-ok_or whole None field offset = record { only = λ e h. fault-is whole (errors.BadField field offset) e (Err (errors.BadField field offset)) refl tt h }

-- one step after the other
next : {A B : Type 0} (whole : ℕ) (r : Result A ImageError) (f : A → Result B ImageError) → Faults whole r → ((x : A) → Faults whole (f x)) → Faults whole (r >>= f)
next whole (Ok x) f first others = others x
next whole (Err d) f first others = record { only = λ e h. fault-is whole d e (Err d >>= f) refl (first.only d refl) h }

fault-number : (whole : ℕ) (bytes : List ℕ) → Faults whole (number_at whole bytes)
fault-number whole bytes = fault-short whole (ltb (length bytes) 4) (from_le_bytes w32 (take 4 bytes), drop 4 bytes)

fault-field : (whole : ℕ) (field : Field) (range : FieldRange) (bytes : List ℕ) → Faults whole (field_at whole field range bytes)
unfolding field_at
fault-field whole field range bytes = next whole _ _ (fault-number whole bytes) (λ n. fault-bad whole (is_in range n.0) field (whole - length bytes) n)

fault-version : (whole : ℕ) (bytes : List ℕ) → Faults whole (version_at whole bytes)
unfolding version_at
fault-version whole bytes = next whole _ _ (fault-field whole fields.Magic magic_range bytes) (λ m. fault-field whole fields.Version version_range m.1)

fault-copies_by : (whole : ℕ) (b : Bool) (bytes : List ℕ) → Faults whole (cond b (done (0, bytes)) (field_at whole fields.Cq depth_range bytes))
fault-copies_by whole true bytes = fault-done whole (0, bytes)
fault-copies_by whole false bytes = fault-field whole fields.Cq depth_range bytes

fault-copies : (whole v : ℕ) (bytes : List ℕ) → Faults whole (copies_at whole v bytes)
unfolding copies_at
fault-copies whole v bytes = fault-copies_by whole (eqb v 1) bytes

fault-budget : (whole v : ℕ) (bytes : List ℕ) → Faults whole (budget_at whole v bytes)
unfolding budget_at
fault-budget whole v bytes =
    next whole _ _ (fault-field whole fields.Ld depth_range bytes) (λ ld.
    next whole _ _ (fault-field whole fields.Al depth_range ld.1) (λ al.
    next whole _ _ (fault-field whole fields.Sa depth_range al.1) (λ sa.
    next whole _ _ (fault-field whole fields.Sd depth_range sa.1) (λ sd.
    next whole _ _ (fault-field whole fields.Ab depth_range sd.1) (λ ab.
    next whole _ _ (fault-field whole fields.Eb depth_range ab.1) (λ eb.
    next whole _ _ (fault-copies whole v eb.1) (λ cq. fault-done whole _)))))))

pub fault-header : (whole : ℕ) (bytes : List ℕ) → Faults whole (header_at whole bytes)
unfolding header_at
fault-header whole bytes =
    next whole _ _ (fault-version whole bytes) (λ v.
    next whole _ _ (fault-budget whole v.0 v.1) (λ b.
    next whole _ _ (fault-field whole fields.Memory memory_range b.1) (λ memory.
    next whole _ _ (fault-field whole fields.Calls calls_range memory.1) (λ calls.
    next whole _ _ (fault-field whole fields.PrivateA private_range calls.1) (λ private_a.
    next whole _ _ (fault-field whole fields.PrivateE private_range private_a.1) (λ private_e.
    next whole _ _ (fault-field whole fields.EntryA entry_range private_e.1) (λ entry_a.
    next whole _ _ (fault-field whole fields.EntryE entry_range entry_a.1) (λ entry_e.
    next whole _ _ (fault-field whole fields.WordsA (words_range entry_a.0) entry_e.1) (λ words_a.
    next whole _ _ (fault-field whole fields.WordsE (words_range entry_e.0) words_a.1) (λ words_e.
    next whole _ _ (fault-field whole fields.DataLength (content_range memory.0) words_e.1) (λ content.
    next whole _ _ (fault-field whole fields.LineCount line_count_range content.1) (λ lines.
    next whole _ _ (fault-field whole fields.NameCount name_count_range lines.1) (λ names. fault-done whole _)))))))))))))

fault-bytes : (whole count : ℕ) (bytes : List ℕ) → Faults whole (bytes_at whole count bytes)
unfolding bytes_at
fault-bytes whole count bytes = fault-short whole (ltb (length bytes) count) (take count bytes, drop count bytes)

fault-words : (whole count : ℕ) (bytes : List ℕ) → Faults whole (words_at whole count bytes)
unfolding words_at
fault-words whole count bytes = next whole _ _ (fault-bytes whole (4 * count) bytes) (λ code. fault-done whole _)

fault-line : (whole : ℕ) (h : ImageHeader) (last : Option LineMark) (bytes : List ℕ) → Faults whole (line_at whole h last bytes)
unfolding line_at
fault-line whole h last bytes =
    next whole _ _ (fault-number whole bytes) (λ side.
    next whole _ _ (fault-number whole side.1) (λ word.
    next whole _ _ (fault-number whole word.1) (λ file.
    next whole _ _ (fault-number whole file.1) (λ line.
    next whole _ _ (fault-ok_or whole (mark_of h last side.0 word.0 file.0 line.0) fields.Line (whole - length bytes)) (λ mark. fault-done whole _)))))

fault-lines : (whole : ℕ) (h : ImageHeader) (last : Option LineMark) (n : ℕ) (bytes : List ℕ) → Faults whole (lines_at whole h last n bytes)
unfolding lines_at
fault-lines whole h last zero bytes = fault-done whole _
fault-lines whole h last (suc n) bytes = next whole _ _ (fault-line whole h last bytes) (λ first. next whole _ _ (fault-lines whole h (Some first.0) n first.1) (λ others. fault-done whole _))

fault-name : (whole : ℕ) (bytes : List ℕ) → Faults whole (name_at whole bytes)
unfolding name_at
fault-name whole bytes =
    next whole _ _ (fault-field whole fields.Name name_range bytes) (λ size.
    next whole _ _ (fault-bytes whole size.0 size.1) (λ name. fault-bad whole (is_utf8 name.0) fields.Name (whole - length bytes) name))

fault-names : (whole n : ℕ) (bytes : List ℕ) → Faults whole (names_at whole n bytes)
unfolding names_at
fault-names whole zero bytes = fault-done whole _
fault-names whole (suc n) bytes = next whole _ _ (fault-name whole bytes) (λ first. next whole _ _ (fault-names whole n first.1) (λ others. fault-done whole _))

pub fault-body : (whole : ℕ) (h : ImageHeader) (bytes : List ℕ) → Faults whole (body_at whole h bytes)
unfolding body_at
fault-body whole h bytes =
    next whole _ _ (fault-words whole h.words_a bytes) (λ a.
    next whole _ _ (fault-words whole h.words_e a.1) (λ e.
    next whole _ _ (fault-bytes whole h.content e.1) (λ content.
    next whole _ _ (fault-lines whole h None h.lines content.1) (λ lines.
    next whole _ _ (fault-names whole h.names lines.1) (λ names. fault-done whole _)))))

-- ---- the image

failed : {A B : Type 0} (r : Result A ImageError) (f : A → Result B ImageError) (e : ImageError) → (r >>= f) ≡ Err e → (r ≡ Err e) ⊎ ((x : A) × (r ≡ Ok x) × (f x ≡ Err e))
failed (Ok x) f e h = inr (x, refl, h)
failed (Err d) f e h = inl (let same : d ≡ e = cc in ap (λ (k : ImageError). Err k) same)

-- what a fault says of all bytes
abbrev pub IsFaultOf : List ℕ → ImageError → Type 0
IsFaultOf bytes (errors.Short n) = n ≡ length bytes
IsFaultOf bytes (errors.BadField field offset) = Unit {0}
IsFaultOf bytes (errors.Trailing n) = (n < length bytes) × ((c : ImageContents) × Fits c × Spells (take n bytes) c)
IsFaultOf bytes errors.Memory = ⊥

fault-of : (bytes : List ℕ) (e : ImageError) → IsFault (length bytes) e → IsFaultOf bytes e
fault-of bytes (errors.Short n) h = h
fault-of bytes (errors.BadField field offset) h = tt
fault-of bytes (errors.Trailing n) h = absurd h
fault-of bytes errors.Memory h = absurd h

trails : {A : Type 0} (b : Bool) (x : A) (d e : ImageError) → cond b (done x) (Err d) ≡ Err e → (b ≡ false) × (d ≡ e)
trails true x d e h = absurd cc
trails false x d e h = (refl, cc)

-- an image before other bytes
before : (bytes : List ℕ) (v : ℕ) (c : ImageContents) (rest : List ℕ) → IsIn version_range v → (v ≡ 1 → c.budget.cq ≡ 0) → Fits c → bytes ≡ spelling v c ++ rest → (length rest ≡ 0 → ⊥) → IsFaultOf bytes (errors.Trailing (length bytes - length rest))
before bytes v c rest is_version old fits text some =
    let len : length bytes ≡ length (spelling v c) + length rest = ap length text ∙ length-append (spelling v c) rest in
    let n : length (spelling v c) ≡ length bytes - length rest = omega (arith, len) in
    let front : take (length bytes - length rest) bytes ≡ spelling v c = ap (λ (t : List ℕ). take (length bytes - length rest) t) text ∙ take_at (spelling v c) rest (length bytes - length rest) n in
    (omega (arith, len, some), (c, fits, spells (take (length bytes - length rest) bytes) v c is_version old front))

body_fails : (bytes : List ℕ) (e : ImageError) (h : ImageHeader × List ℕ) → IsBytes bytes → header_at (length bytes) bytes ≡ Ok h
    → (body_at (length bytes) h.0 h.1 >>= λ image. cond (eqb (length image.1) 0) (done image.0) (Err (errors.Trailing (length bytes - length image.1)))) ≡ Err e → IsFaultOf bytes e
body_fails bytes e h fits h-is failure =
    elim (failed (body_at (length bytes) h.0 h.1) _ e failure) [
      | inl first ↦ fault-of bytes e ((fault-body (length bytes) h.0 h.1).only e first)
      | inr other ↦
          let head-read = header_takes (length bytes) bytes h fits h-is in
          let c = other.0 in
          let body-read = body_takes (length bytes) h.0 h.1 c head-read.fits head-read.takes.fits other.1 in
          let t = trails (eqb (length c.1) 0) c.0 (errors.Trailing (length bytes - length c.1)) e other.2 in
          let both = (Takes-then bytes (numbers (head head-read.version h.0)) h.1 (body c.0) c.1 head-read.takes body-read.takes).parts in
          let text : bytes ≡ spelling head-read.version c.0 ++ c.1 = both ∙ ap (λ (k : ImageHeader). (numbers (head head-read.version k) ++ body c.0) ++ c.1) (sym body-read.same) in
          let old : head-read.version ≡ 1 → c.0.budget.cq ≡ 0 = λ one. ap (λ (k : ImageHeader). k.budget.cq) body-read.same ∙ head-read.old one in
          subst (λ (d : ImageError). IsFaultOf bytes d) t.1 (before bytes head-read.version c.0 c.1 head-read.is_version old body-read.fits text (eqb-false (length c.1) 0 t.0))
    ]

pub image_fails : (bytes : List ℕ) (e : ImageError) → IsBytes bytes → image_at bytes ≡ Err e → IsFaultOf bytes e
unfolding image_at
image_fails bytes e fits h =
    elim (failed (header_at (length bytes) bytes) _ e h) [
      | inl first ↦ fault-of bytes e ((fault-header (length bytes) bytes).only e first)
      | inr other ↦ body_fails bytes e other.0 fits other.1 other.2
    ]

-- an image before other bytes is told from them
trailing_in : (v : ℕ) (c : ImageContents) (rest : List ℕ) → IsIn version_range v → (v ≡ 1 → c.budget.cq ≡ 0) → Fits c → (length rest ≡ 0 → ⊥) → image_at (spelling v c ++ rest) ≡ Err (errors.Trailing (length (spelling v c)))
unfolding image_at
trailing_in v c rest is_version old fits some =
    let whole = length (spelling v c ++ rest) in
    let text : spelling v c ++ rest ≡ numbers (head v (header c)) ++ (body c ++ rest) = append_assoc (numbers (head v (header c))) (body c) rest in
    let offset : whole - length rest ≡ length (spelling v c) = omega (arith, length-append (spelling v c) rest) in
    bind_again _ _ (header c, body c ++ rest) _ (ap (header_at whole) text ∙ header_again whole v (header c) (body c ++ rest) is_version old fits.head)
    (bind_again _ _ (c, rest) _ (body_again whole c rest fits) (rw (ne_eqb (length rest) 0 some, offset) refl))

trails_in : (bytes : List ℕ) (n v : ℕ) (c : ImageContents) → Fits c → IsIn version_range v → (v ≡ 1 → c.budget.cq ≡ 0) → (length (drop n bytes) ≡ 0 → ⊥) → length (take n bytes) ≡ n → take n bytes ≡ spelling v c → image_at bytes ≡ Err (errors.Trailing n)
trails_in bytes n v c fits is_version old some len text =
    let parts : bytes ≡ spelling v c ++ drop n bytes = sym (take-append-drop n bytes) ∙ ap (λ (t : List ℕ). t ++ drop n bytes) text in
    ap image_at parts ∙ trailing_in v c (drop n bytes) is_version old fits some ∙ ap (λ (k : ℕ). Err (errors.Trailing k)) (sym (ap length text) ∙ len)

pub image_trails : (bytes : List ℕ) (n : ℕ) (c : ImageContents) → Fits c → n < length bytes → Spells (take n bytes) c → image_at bytes ≡ Err (errors.Trailing n)
image_trails bytes n c fits less spelled =
    let some : length (drop n bytes) ≡ 0 → ⊥ = λ none. omega (arith, none, length-drop n bytes) in
    let len : length (take n bytes) ≡ n = omega (arith, length-take n bytes) in
    elim spelled [
      | inl text ↦ trails_in bytes n 2 c fits (lit≤ tt, lit≤ tt, refl) (λ one. absurd cc) some len text
      | inr old ↦ trails_in bytes n 1 c fits (lit≤ tt, lit≤ tt, refl) (λ one. old.0) some len old.1
    ]
