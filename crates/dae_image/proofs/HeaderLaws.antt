-- The header that is read is the one that was written, and what was written is read again.
use Rattle.std.proofs.Common.{◌≡◌, ℕ, Bool, true, false, cond, eqb, List, [], ◌∷◌, ◌++◌, Result, Ok, refl, sym, ap, subst, ◌∙◌, append_assoc, arith, lit<, lit≤}
use Rattle.std.proofs.lemmas.Bool.{eqb-true, eqb-false}
use Rattle.std.proofs.lemmas.List.{append-nil}
use Rattle.std.proofs.lemmas.List.Concat.{flat_map-append}
use Rattle.dae_base.specs.declared.Depths.{Depths}
use Rattle.dae_image.specs.declared.header.ImageHeader.{ImageHeader}
use Rattle.dae_image.specs.declared.fault.ImageError.{ImageError}
use Rattle.dae_image.specs.declared.fault.Field.TheVariants as fields
use Rattle.dae_image.specs.Ranges.{IsIn, magic, magic_range, version_range, depth_range, memory_range, calls_range, private_range, entry_range, words_range, content_range, line_count_range, name_count_range}
use Rattle.dae_image.specs.Contents.{HeaderFits}
use Rattle.dae_image.specs.Spelling.{number, numbers, six_depths, sizes}
use Rattle.dae_image.specs.Reading.{◌>>=◌, field_at, version_at, copies_at, budget_at, header_at}
use Rattle.dae_image.proofs.FieldLaws.{IsBytes, step, ok_is, done, Takes, Takes-then, field_takes, field_again}

-- ---- the version

pub record VersionRead (bytes : List ℕ) (v : ℕ) (rest : List ℕ) : Type 0 where
  pub takes : Takes bytes (number magic ++ number v) rest
  pub is_in : IsIn version_range v

pub version_takes : (whole : ℕ) (bytes : List ℕ) (v : ℕ × List ℕ) → IsBytes bytes → version_at whole bytes ≡ Ok v → VersionRead bytes v.0 v.1
unfolding version_at
version_takes whole bytes v fits e =
    step (field_at whole fields.Magic magic_range bytes) _ v e (λ a a-is e1.
    let m = field_takes whole fields.Magic magic_range bytes a fits a-is in
    let n = field_takes whole fields.Version version_range a.1 v m.takes.fits e1 in
    let same : a.0 ≡ magic = omega (arith, m.is_in) in
    let both = Takes-then bytes (number a.0) a.1 (number v.0) v.1 m.takes n.takes in
    record { takes = subst (λ (k : ℕ). Takes bytes (number k ++ number v.0) v.1) same both; is_in = n.is_in })

pub bind_again : {A B : Type 0} (r : Result A ImageError) (f : A → Result B ImageError) (x : A) (y : Result B ImageError) → r ≡ Ok x → f x ≡ y → (r >>= f) ≡ y
bind_again r f x y e g = rw e g

pub version_again : (whole v : ℕ) (rest : List ℕ) → IsIn version_range v → version_at whole (number magic ++ (number v ++ rest)) ≡ Ok (v, rest)
unfolding version_at
version_again whole v rest h = bind_again _ _ (magic, number v ++ rest) _ (field_again whole fields.Magic magic_range magic (number v ++ rest) (lit≤ tt, lit≤ tt, refl) (lit< tt)) (field_again whole fields.Version version_range v rest h (lit< tt))

-- ---- the budget

-- the number that version 2 alone has
abbrev pub copies : ℕ → ℕ → List ℕ
copies v cq = cond (eqb v 1) [] (cq ∷ [])

pub record CopiesRead (v : ℕ) (bytes : List ℕ) (cq : ℕ) (rest : List ℕ) : Type 0 where
  pub takes : Takes bytes (numbers (copies v cq)) rest
  pub is_in : IsIn depth_range cq
  pub old : v ≡ 1 → cq ≡ 0

copies_take : (whole v : ℕ) (b : Bool) (bytes : List ℕ) (cq : ℕ × List ℕ) → eqb v 1 ≡ b → IsBytes bytes → cond b (done (0, bytes)) (field_at whole fields.Cq depth_range bytes) ≡ Ok cq → CopiesRead v bytes cq.0 cq.1
copies_take whole v true bytes cq test fits e =
    let nothing : Takes bytes (numbers (copies v 0)) bytes = rw test (record { parts = refl; fits = fits }) in
    subst (λ (x : ℕ × List ℕ). CopiesRead v bytes x.0 x.1) (ok_is (0, bytes) cq e) (record { takes = nothing; is_in = (lit≤ tt, lit≤ tt, refl); old = λ _. refl })
copies_take whole v false bytes cq test fits e =
    let f = field_takes whole fields.Cq depth_range bytes cq fits e in
    record { takes = rw (test, append-nil) f.takes; is_in = f.is_in; old = λ same. absurd (eqb-false v 1 test same) }

pub copies_takes : (whole v : ℕ) (bytes : List ℕ) (cq : ℕ × List ℕ) → IsBytes bytes → copies_at whole v bytes ≡ Ok cq → CopiesRead v bytes cq.0 cq.1
unfolding copies_at
copies_takes whole v bytes cq fits e = copies_take whole v (eqb v 1) bytes cq refl fits e

pub record BudgetRead (v : ℕ) (bytes : List ℕ) (d : Depths) (rest : List ℕ) : Type 0 where
  pub takes : Takes bytes (numbers (six_depths d ++ copies v d.cq)) rest
  pub ld : IsIn depth_range d.ld
  pub al : IsIn depth_range d.al
  pub sa : IsIn depth_range d.sa
  pub sd : IsIn depth_range d.sd
  pub ab : IsIn depth_range d.ab
  pub eb : IsIn depth_range d.eb
  pub cq : IsIn depth_range d.cq
  pub old : v ≡ 1 → d.cq ≡ 0

pub budget_takes : (whole v : ℕ) (bytes : List ℕ) (d : Depths × List ℕ) → IsBytes bytes → budget_at whole v bytes ≡ Ok d → BudgetRead v bytes d.0 d.1
unfolding budget_at
budget_takes whole v bytes d fits e =
    step (field_at whole fields.Ld depth_range bytes) _ d e (λ ld ld-is e1.
    let ld-read = field_takes whole fields.Ld depth_range bytes ld fits ld-is in
    step (field_at whole fields.Al depth_range ld.1) _ d e1 (λ al al-is e2.
    let al-read = field_takes whole fields.Al depth_range ld.1 al ld-read.takes.fits al-is in
    step (field_at whole fields.Sa depth_range al.1) _ d e2 (λ sa sa-is e3.
    let sa-read = field_takes whole fields.Sa depth_range al.1 sa al-read.takes.fits sa-is in
    step (field_at whole fields.Sd depth_range sa.1) _ d e3 (λ sd sd-is e4.
    let sd-read = field_takes whole fields.Sd depth_range sa.1 sd sa-read.takes.fits sd-is in
    step (field_at whole fields.Ab depth_range sd.1) _ d e4 (λ ab ab-is e5.
    let ab-read = field_takes whole fields.Ab depth_range sd.1 ab sd-read.takes.fits ab-is in
    step (field_at whole fields.Eb depth_range ab.1) _ d e5 (λ eb eb-is e6.
    let eb-read = field_takes whole fields.Eb depth_range ab.1 eb ab-read.takes.fits eb-is in
    step (copies_at whole v eb.1) _ d e6 (λ cq cq-is e7.
    let cq-read = copies_takes whole v eb.1 cq eb-read.takes.fits cq-is in
    let t6 = Takes-then ab.1 (number eb.0) eb.1 _ cq.1 eb-read.takes cq-read.takes in
    let t5 = Takes-then sd.1 (number ab.0) ab.1 _ cq.1 ab-read.takes t6 in
    let t4 = Takes-then sa.1 (number sd.0) sd.1 _ cq.1 sd-read.takes t5 in
    let t3 = Takes-then al.1 (number sa.0) sa.1 _ cq.1 sa-read.takes t4 in
    let t2 = Takes-then ld.1 (number al.0) al.1 _ cq.1 al-read.takes t3 in
    let t1 = Takes-then bytes (number ld.0) ld.1 _ cq.1 ld-read.takes t2 in
    subst (λ (x : Depths × List ℕ). BudgetRead v bytes x.0 x.1) (ok_is _ d e7) (record { takes = t1; ld = ld-read.is_in; al = al-read.is_in; sa = sa-read.is_in; sd = sd-read.is_in; ab = ab-read.is_in; eb = eb-read.is_in; cq = cq-read.is_in; old = cq-read.old }))))))))

copies_by : (whole v cq : ℕ) (rest : List ℕ) (b : Bool) → eqb v 1 ≡ b → IsIn depth_range cq → (v ≡ 1 → cq ≡ 0) → cond b (done (0, numbers (cond b [] (cq ∷ [])) ++ rest)) (field_at whole fields.Cq depth_range (numbers (cond b [] (cq ∷ [])) ++ rest)) ≡ Ok (cq, rest)
copies_by whole v cq rest true test h old = ap (λ (k : ℕ). done (k, rest)) (sym (old (eqb-true v 1 test)))
copies_by whole v cq rest false test h old = field_again whole fields.Cq depth_range cq rest h (lit< tt)

pub copies_again : (whole v cq : ℕ) (rest : List ℕ) → IsIn depth_range cq → (v ≡ 1 → cq ≡ 0) → copies_at whole v (numbers (copies v cq) ++ rest) ≡ Ok (cq, rest)
unfolding copies_at
copies_again whole v cq rest h old = copies_by whole v cq rest (eqb v 1) refl h old

-- what budgets need to be read again
pub record BudgetFits (v : ℕ) (d : Depths) : Type 0 where
  pub ld : IsIn depth_range d.ld
  pub al : IsIn depth_range d.al
  pub sa : IsIn depth_range d.sa
  pub sd : IsIn depth_range d.sd
  pub ab : IsIn depth_range d.ab
  pub eb : IsIn depth_range d.eb
  pub cq : IsIn depth_range d.cq
  pub old : v ≡ 1 → d.cq ≡ 0

abbrev pub budget_text : ℕ → Depths → List ℕ → List ℕ
budget_text v d rest = number d.ld ++ (number d.al ++ (number d.sa ++ (number d.sd ++ (number d.ab ++ (number d.eb ++ (numbers (copies v d.cq) ++ rest))))))

pub budget_again : (whole v : ℕ) (d : Depths) (rest : List ℕ) → BudgetFits v d → budget_at whole v (budget_text v d rest) ≡ Ok (d, rest)
unfolding budget_at
budget_again whole v d rest h =
    let r6 : List ℕ = numbers (copies v d.cq) ++ rest in
    let r5 : List ℕ = number d.eb ++ r6 in
    let r4 : List ℕ = number d.ab ++ r5 in
    let r3 : List ℕ = number d.sd ++ r4 in
    let r2 : List ℕ = number d.sa ++ r3 in
    let r1 : List ℕ = number d.al ++ r2 in
    bind_again _ _ (d.ld, r1) _ (field_again whole fields.Ld depth_range d.ld r1 h.ld (lit< tt))
    (bind_again _ _ (d.al, r2) _ (field_again whole fields.Al depth_range d.al r2 h.al (lit< tt))
    (bind_again _ _ (d.sa, r3) _ (field_again whole fields.Sa depth_range d.sa r3 h.sa (lit< tt))
    (bind_again _ _ (d.sd, r4) _ (field_again whole fields.Sd depth_range d.sd r4 h.sd (lit< tt))
    (bind_again _ _ (d.ab, r5) _ (field_again whole fields.Ab depth_range d.ab r5 h.ab (lit< tt))
    (bind_again _ _ (d.eb, r6) _ (field_again whole fields.Eb depth_range d.eb r6 h.eb (lit< tt))
    (bind_again _ _ (d.cq, rest) _ (copies_again whole v d.cq rest h.cq h.old) refl))))))

-- ---- the header

-- the numbers of the header in a version
abbrev pub head : ℕ → ImageHeader → List ℕ
head v h = magic ∷ v ∷ ((six_depths h.budget ++ copies v h.budget.cq) ++ sizes h)

pub record HeaderRead (bytes : List ℕ) (h : ImageHeader) (rest : List ℕ) : Type 0 where
  pub version : ℕ
  pub is_version : IsIn version_range version
  pub old : version ≡ 1 → h.budget.cq ≡ 0
  pub takes : Takes bytes (numbers (head version h)) rest
  pub fits : HeaderFits h

regroup : (front xs ys : List ℕ) → front ++ (numbers xs ++ numbers ys) ≡ front ++ numbers (xs ++ ys)
regroup front xs ys = ap (λ (t : List ℕ). front ++ t) (sym (flat_map-append number xs ys))

pub header_takes : (whole : ℕ) (bytes : List ℕ) (h : ImageHeader × List ℕ) → IsBytes bytes → header_at whole bytes ≡ Ok h → HeaderRead bytes h.0 h.1
unfolding header_at
header_takes whole bytes h bytes-fit e =
    step (version_at whole bytes) _ h e (λ v v-is e1.
    let v-read = version_takes whole bytes v bytes-fit v-is in
    step (budget_at whole v.0 v.1) _ h e1 (λ b b-is e2.
    let b-read = budget_takes whole v.0 v.1 b v-read.takes.fits b-is in
    step (field_at whole fields.Memory memory_range b.1) _ h e2 (λ memory memory-is e3.
    let memory-read = field_takes whole fields.Memory memory_range b.1 memory b-read.takes.fits memory-is in
    step (field_at whole fields.Calls calls_range memory.1) _ h e3 (λ calls calls-is e4.
    let calls-read = field_takes whole fields.Calls calls_range memory.1 calls memory-read.takes.fits calls-is in
    step (field_at whole fields.PrivateA private_range calls.1) _ h e4 (λ private_a private_a-is e5.
    let private_a-read = field_takes whole fields.PrivateA private_range calls.1 private_a calls-read.takes.fits private_a-is in
    step (field_at whole fields.PrivateE private_range private_a.1) _ h e5 (λ private_e private_e-is e6.
    let private_e-read = field_takes whole fields.PrivateE private_range private_a.1 private_e private_a-read.takes.fits private_e-is in
    step (field_at whole fields.EntryA entry_range private_e.1) _ h e6 (λ entry_a entry_a-is e7.
    let entry_a-read = field_takes whole fields.EntryA entry_range private_e.1 entry_a private_e-read.takes.fits entry_a-is in
    step (field_at whole fields.EntryE entry_range entry_a.1) _ h e7 (λ entry_e entry_e-is e8.
    let entry_e-read = field_takes whole fields.EntryE entry_range entry_a.1 entry_e entry_a-read.takes.fits entry_e-is in
    step (field_at whole fields.WordsA (words_range entry_a.0) entry_e.1) _ h e8 (λ words_a words_a-is e9.
    let words_a-read = field_takes whole fields.WordsA (words_range entry_a.0) entry_e.1 words_a entry_e-read.takes.fits words_a-is in
    step (field_at whole fields.WordsE (words_range entry_e.0) words_a.1) _ h e9 (λ words_e words_e-is e10.
    let words_e-read = field_takes whole fields.WordsE (words_range entry_e.0) words_a.1 words_e words_a-read.takes.fits words_e-is in
    step (field_at whole fields.DataLength (content_range memory.0) words_e.1) _ h e10 (λ content content-is e11.
    let content-read = field_takes whole fields.DataLength (content_range memory.0) words_e.1 content words_e-read.takes.fits content-is in
    step (field_at whole fields.LineCount line_count_range content.1) _ h e11 (λ lines lines-is e12.
    let lines-read = field_takes whole fields.LineCount line_count_range content.1 lines content-read.takes.fits lines-is in
    step (field_at whole fields.NameCount name_count_range lines.1) _ h e12 (λ names names-is e13.
    let names-read = field_takes whole fields.NameCount name_count_range lines.1 names lines-read.takes.fits names-is in
    let t12 = Takes-then content.1 (number lines.0) lines.1 _ names.1 lines-read.takes names-read.takes in
    let t11 = Takes-then words_e.1 (number content.0) content.1 _ names.1 content-read.takes t12 in
    let t10 = Takes-then words_a.1 (number words_e.0) words_e.1 _ names.1 words_e-read.takes t11 in
    let t9 = Takes-then entry_e.1 (number words_a.0) words_a.1 _ names.1 words_a-read.takes t10 in
    let t8 = Takes-then entry_a.1 (number entry_e.0) entry_e.1 _ names.1 entry_e-read.takes t9 in
    let t7 = Takes-then private_e.1 (number entry_a.0) entry_a.1 _ names.1 entry_a-read.takes t8 in
    let t6 = Takes-then private_a.1 (number private_e.0) private_e.1 _ names.1 private_e-read.takes t7 in
    let t5 = Takes-then calls.1 (number private_a.0) private_a.1 _ names.1 private_a-read.takes t6 in
    let t4 = Takes-then memory.1 (number calls.0) calls.1 _ names.1 calls-read.takes t5 in
    let t3 = Takes-then b.1 (number memory.0) memory.1 _ names.1 memory-read.takes t4 in
    let t2 = Takes-then v.1 (numbers (six_depths b.0 ++ copies v.0 b.0.cq)) b.1 _ names.1 b-read.takes t3 in
    let t1 = Takes-then bytes (number magic ++ number v.0) v.1 _ names.1 v-read.takes t2 in
    subst (λ (x : ImageHeader × List ℕ). HeaderRead bytes x.0 x.1) (ok_is _ h e13) (record { version = v.0; is_version = v-read.is_in; old = b-read.old; takes = subst (λ (t : List ℕ). Takes bytes t names.1) (regroup (number magic ++ number v.0) (six_depths b.0 ++ copies v.0 b.0.cq) (memory.0 ∷ calls.0 ∷ private_a.0 ∷ private_e.0 ∷ entry_a.0 ∷ entry_e.0 ∷ words_a.0 ∷ words_e.0 ∷ content.0 ∷ lines.0 ∷ names.0 ∷ [])) t1; fits = record { ld = b-read.ld; al = b-read.al; sa = b-read.sa; sd = b-read.sd; ab = b-read.ab; eb = b-read.eb; cq = b-read.cq; memory = memory-read.is_in; calls = calls-read.is_in; private_a = private_a-read.is_in; private_e = private_e-read.is_in; entry_a = entry_a-read.is_in; entry_e = entry_e-read.is_in; words_a = words_a-read.is_in; words_e = words_e-read.is_in; content = content-read.is_in; lines = lines-read.is_in; names = names-read.is_in } }))))))))))))))

head_text : (v : ℕ) (h : ImageHeader) (rest : List ℕ) → numbers (head v h) ++ rest ≡ number magic ++ (number v ++ budget_text v h.budget (numbers (sizes h) ++ rest))
head_text v h rest =
    let split : numbers (copies v h.budget.cq ++ sizes h) ++ rest ≡ numbers (copies v h.budget.cq) ++ (numbers (sizes h) ++ rest) = ap (λ (t : List ℕ). t ++ rest) (flat_map-append number (copies v h.budget.cq) (sizes h)) ∙ append_assoc (numbers (copies v h.budget.cq)) (numbers (sizes h)) rest in
    ap (λ (t : List ℕ). number magic ++ (number v ++ (number h.budget.ld ++ (number h.budget.al ++ (number h.budget.sa ++ (number h.budget.sd ++ (number h.budget.ab ++ (number h.budget.eb ++ t)))))))) split

pub header_again : (whole v : ℕ) (h : ImageHeader) (rest : List ℕ) → IsIn version_range v → (v ≡ 1 → h.budget.cq ≡ 0) → HeaderFits h → header_at whole (numbers (head v h) ++ rest) ≡ Ok (h, rest)
unfolding header_at
header_again whole v h rest is_version old fits =
    let r11 : List ℕ = rest in
    let r10 : List ℕ = number h.names ++ r11 in
    let r9 : List ℕ = number h.lines ++ r10 in
    let r8 : List ℕ = number h.content ++ r9 in
    let r7 : List ℕ = number h.words_e ++ r8 in
    let r6 : List ℕ = number h.words_a ++ r7 in
    let r5 : List ℕ = number h.entry_e ++ r6 in
    let r4 : List ℕ = number h.entry_a ++ r5 in
    let r3 : List ℕ = number h.private_e ++ r4 in
    let r2 : List ℕ = number h.private_a ++ r3 in
    let r1 : List ℕ = number h.calls ++ r2 in
    let r0 : List ℕ = number h.memory ++ r1 in
    let b0 : List ℕ = budget_text v h.budget r0 in
    let budget-fits : BudgetFits v h.budget = record { ld = fits.ld; al = fits.al; sa = fits.sa; sd = fits.sd; ab = fits.ab; eb = fits.eb; cq = fits.cq; old = old } in
    let read : header_at whole (number magic ++ (number v ++ b0)) ≡ Ok (h, rest) =
    bind_again _ _ (v, b0) _ (version_again whole v b0 is_version)
    (bind_again _ _ (h.budget, r0) _ (budget_again whole v h.budget r0 budget-fits)
    (bind_again _ _ (h.memory, r1) _ (field_again whole fields.Memory memory_range h.memory r1 fits.memory (lit< tt))
    (bind_again _ _ (h.calls, r2) _ (field_again whole fields.Calls calls_range h.calls r2 fits.calls (lit< tt))
    (bind_again _ _ (h.private_a, r3) _ (field_again whole fields.PrivateA private_range h.private_a r3 fits.private_a (lit< tt))
    (bind_again _ _ (h.private_e, r4) _ (field_again whole fields.PrivateE private_range h.private_e r4 fits.private_e (lit< tt))
    (bind_again _ _ (h.entry_a, r5) _ (field_again whole fields.EntryA entry_range h.entry_a r5 fits.entry_a (lit< tt))
    (bind_again _ _ (h.entry_e, r6) _ (field_again whole fields.EntryE entry_range h.entry_e r6 fits.entry_e (lit< tt))
    (bind_again _ _ (h.words_a, r7) _ (field_again whole fields.WordsA (words_range h.entry_a) h.words_a r7 fits.words_a (lit< tt))
    (bind_again _ _ (h.words_e, r8) _ (field_again whole fields.WordsE (words_range h.entry_e) h.words_e r8 fits.words_e (lit< tt))
    (bind_again _ _ (h.content, r9) _ (field_again whole fields.DataLength (content_range h.memory) h.content r9 fits.content (omega (arith, fits.memory)))
    (bind_again _ _ (h.lines, r10) _ (field_again whole fields.LineCount line_count_range h.lines r10 fits.lines (lit< tt))
    (bind_again _ _ (h.names, r11) _ (field_again whole fields.NameCount name_count_range h.names r11 fits.names (lit< tt)) refl)))))))))))) in
    ap (header_at whole) (head_text v h rest) ∙ read
