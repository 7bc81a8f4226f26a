-- What stands behind the header is read as it was written, and what was written is read again.
use Rattle.std.proofs.Common.{◌≡◌, ℕ, zero, suc, ◌-◌, ◌*◌, ◌^◌, ◌<◌, ◌≤◌, Bool, true, false, cond, ltb, ◌&&◌, List, [], ◌∷◌, ◌++◌, length, take, drop, Option, Some, None, Ok, refl, sym, ap, subst, ◌∙◌, append_assoc, arith, lit<}
use Rattle.std.specs.Int.{w32, from_le_bytes}
use Rattle.std.specs.List.{flat_map, list_all, AllByRecursion}
use Rattle.std.specs.Option.{ok_or}
use Rattle.std.specs.Str.{is_utf8}
use Rattle.std.proofs.lemmas.Bool.{ltb-true, ltb-false, le-ltb, and_parts, and_from}
use Rattle.std.proofs.lemmas.List.{take_at, drop_at, take-append-drop, length-append, length-take}
use Rattle.std.proofs.lemmas.Nat.{le_bytes_4, from_le_bytes-to_le_bytes_4}
use Rattle.dae_base.specs.declared.Side.{Side}
use Rattle.dae_base.specs.declared.Side.TheVariants.{A, E}
use Rattle.dae_image.specs.declared.LineMark.{LineMark}
use Rattle.dae_image.specs.declared.header.ImageHeader.{ImageHeader}
use Rattle.dae_image.specs.declared.fault.ImageError.{ImageError}
use Rattle.dae_image.specs.declared.fault.ImageError.TheVariants as errors
use Rattle.dae_image.specs.declared.fault.Field.TheVariants as fields
use Rattle.dae_image.specs.Ranges.{is_in, name_range}
use Rattle.dae_image.specs.Contents.{HeaderFits, code_length, follows, is_line, are_lines, is_name}
use Rattle.dae_image.specs.Spelling.{number, numbers, side_number, line, name}
use Rattle.dae_image.specs.Reading.{number_at, field_at, words_of, bytes_at, words_at, side_of, mark_on, mark_of, line_at, lines_at, name_at, names_at}
use Rattle.dae_image.proofs.FieldLaws.{IsBytes, IsBytes-take, IsBytes-drop, step, guard_ok, holds_ok, ok_is, done, Takes, Takes-then, number_takes, number_again, field_takes, field_again, IsIn-from_test, test-from_IsIn}
use Rattle.dae_image.proofs.HeaderLaws.{bind_again}

-- ---- data

pub record BytesRead (n : ℕ) (bytes : List ℕ) (text rest : List ℕ) : Type 0 where
  pub takes : Takes bytes text rest
  pub count : length text ≡ n
  pub small : IsBytes text

pub bytes_take : (whole count : ℕ) (bytes : List ℕ) (x : List ℕ × List ℕ) → IsBytes bytes → bytes_at whole count bytes ≡ Ok x → BytesRead count bytes x.0 x.1
unfolding bytes_at
bytes_take whole count bytes x fits e =
    let g = guard_ok (ltb (length bytes) count) (errors.Short whole) (take count bytes, drop count bytes) x e in
    let long : count ≤ length bytes = ltb-false _ _ g.0 in
    subst (λ (y : List ℕ × List ℕ). BytesRead count bytes y.0 y.1) g.1 (record { takes = record { parts = sym (take-append-drop count bytes); fits = IsBytes-drop count bytes fits }; count = omega (arith, length-take count bytes); small = IsBytes-take count bytes fits })

pub bytes_again : (whole count : ℕ) (text rest : List ℕ) → length text ≡ count → bytes_at whole count (text ++ rest) ≡ Ok (text, rest)
unfolding bytes_at
bytes_again whole count text rest len =
    let long : ltb (length (text ++ rest)) count ≡ false = le-ltb _ _ (omega (arith, length-append text rest)) in
    rw (long, take_at text rest count len, drop_at text rest count len) refl

-- ---- words

pub record WordsAre (n : ℕ) (bytes : List ℕ) (words : List ℕ) : Type 0 where
  pub text : numbers words ≡ bytes
  pub count : length words ≡ n
  pub small : AllByRecursion (λ w. w < 2 ^ 32) words

words_spell : (bytes : List ℕ) (count : ℕ) → length bytes ≡ 4 * count → IsBytes bytes → WordsAre count bytes (words_of bytes)
words_spell [] count len fits = record { text = refl; count = omega arith; small = tt }
words_spell (a ∷ []) count len fits = absurd (omega arith)
words_spell (a ∷ b ∷ []) count len fits = absurd (omega arith)
words_spell (a ∷ b ∷ c ∷ []) count len fits = absurd (omega arith)
words_spell (a ∷ b ∷ c ∷ d ∷ bytes) count len fits =
    let cells : List ℕ = a ∷ b ∷ c ∷ d ∷ [] in
    let w : ℕ = from_le_bytes w32 cells in
    let front-fits : IsBytes cells = IsBytes-take 4 (a ∷ b ∷ c ∷ d ∷ bytes) fits in
    let front : number w ≡ cells = le_bytes_4 cells w refl front-fits refl in
    let others = words_spell bytes (count - 1) (omega arith) (IsBytes-drop 4 (a ∷ b ∷ c ∷ d ∷ bytes) fits) in
    record {
      text = ap (λ (t : List ℕ). t ++ numbers (words_of bytes)) front ∙ ap (λ (t : List ℕ). cells ++ t) others.text;
      count = omega (arith, others.count);
      small = (omega (arith, fits 0, fits 1, fits 2, fits 3), others.small);
    }

words_of_numbers : (ws : List ℕ) → AllByRecursion (λ w. w < 2 ^ 32) ws → words_of (numbers ws) ≡ ws
words_of_numbers [] small = refl
words_of_numbers (w ∷ ws) small = ap (λ (k : ℕ). k ∷ words_of (numbers ws)) (from_le_bytes-to_le_bytes_4 w small.0) ∙ ap (λ (t : List ℕ). w ∷ t) (words_of_numbers ws small.1)

pub length-numbers : (ws : List ℕ) → length (numbers ws) ≡ 4 * length ws
length-numbers [] = refl
length-numbers (w ∷ ws) = omega (arith, length-append (number w) (numbers ws), length-numbers ws)

pub record WordsRead (n : ℕ) (bytes : List ℕ) (words rest : List ℕ) : Type 0 where
  pub takes : Takes bytes (numbers words) rest
  pub count : length words ≡ n
  pub small : AllByRecursion (λ w. w < 2 ^ 32) words

pub words_take : (whole count : ℕ) (bytes : List ℕ) (x : List ℕ × List ℕ) → IsBytes bytes → words_at whole count bytes ≡ Ok x → WordsRead count bytes x.0 x.1
unfolding words_at
words_take whole count bytes x fits e =
    step (bytes_at whole (4 * count) bytes) _ x e (λ code code-is e1.
    let read = bytes_take whole (4 * count) bytes code fits code-is in
    let words = words_spell code.0 count read.count read.small in
    subst (λ (y : List ℕ × List ℕ). WordsRead count bytes y.0 y.1) (ok_is (words_of code.0, code.1) x e1) (record { takes = subst (λ (t : List ℕ). Takes bytes t code.1) (sym words.text) read.takes; count = words.count; small = words.small }))

pub words_again : (whole : ℕ) (ws rest : List ℕ) → AllByRecursion (λ w. w < 2 ^ 32) ws → words_at whole (length ws) (numbers ws ++ rest) ≡ Ok (ws, rest)
unfolding words_at
words_again whole ws rest small = bind_again _ _ (numbers ws, rest) _ (bytes_again whole (4 * length ws) (numbers ws) rest (length-numbers ws)) (ap (λ (t : List ℕ). done (t, rest)) (words_of_numbers ws small))

-- ---- line marks

ok_or_is : {A : Type 0} (o : Option A) (d : ImageError) (x : A) → ok_or o d ≡ Ok x → o ≡ Some x
ok_or_is None d x e = absurd cc
ok_or_is (Some y) d x e = cc

some_is : {A : Type 0} (b : Bool) (x y : A) → cond b (Some x) None ≡ Some y → (b ≡ true) × (x ≡ y)
some_is true x y e = (refl, cc)
some_is false x y e = absurd cc

record MarkOf (h : ImageHeader) (last : Option LineMark) (s w f l : ℕ) (m : LineMark) : Type 0 where
  pub side : side_number m.side ≡ s
  pub word : m.word ≡ w
  pub file : m.file ≡ f
  pub line : m.line ≡ l
  pub good : is_line h last m ≡ true

mark_on_is : (h : ImageHeader) (last : Option LineMark) (s : Side) (word file line : ℕ) (m : LineMark) → mark_on h last (Some s) word file line ≡ Some m → MarkOf h last (side_number s) word file line m
mark_on_is h last s word file line m e =
    let made : LineMark = record { side = s; word = word; file = file; line = line } in
    let g = some_is (is_line h last made) made m e in
    subst (λ (x : LineMark). MarkOf h last (side_number s) word file line x) g.1 (record { side = refl; word = refl; file = refl; line = refl; good = g.0 })

mark_is : (h : ImageHeader) (last : Option LineMark) (side word file line : ℕ) (m : LineMark) → mark_of h last side word file line ≡ Some m → MarkOf h last side word file line m
unfolding mark_of
mark_is h last zero word file line m e = mark_on_is h last A word file line m e
mark_is h last (suc zero) word file line m e = mark_on_is h last E word file line m e
mark_is h last (suc (suc n)) word file line m e = absurd cc

mark_on_again : (h : ImageHeader) (last : Option LineMark) (m : LineMark) → is_line h last m ≡ true → mark_on h last (Some m.side) m.word m.file m.line ≡ Some m
mark_on_again h last m good = rw good refl

side_again : (s : Side) → side_of (side_number s) ≡ Some s
side_again A = refl
side_again E = refl

mark_again : (h : ImageHeader) (last : Option LineMark) (m : LineMark) → is_line h last m ≡ true → mark_of h last (side_number m.side) m.word m.file m.line ≡ Some m
unfolding mark_of
mark_again h last m good = ap (λ (s : Option Side). mark_on h last s m.word m.file m.line) (side_again m.side) ∙ mark_on_again h last m good

pub record LineRead (h : ImageHeader) (last : Option LineMark) (bytes : List ℕ) (m : LineMark) (rest : List ℕ) : Type 0 where
  pub takes : Takes bytes (line m) rest
  pub good : is_line h last m ≡ true
  pub small : m.line < 2 ^ 32

pub line_takes : (whole : ℕ) (h : ImageHeader) (last : Option LineMark) (bytes : List ℕ) (m : LineMark × List ℕ) → IsBytes bytes → line_at whole h last bytes ≡ Ok m → LineRead h last bytes m.0 m.1
unfolding line_at
line_takes whole h last bytes m fits e =
    step (number_at whole bytes) _ m e (λ side side-is e1.
    let side-read = number_takes whole bytes side.0 side.1 fits side-is in
    step (number_at whole side.1) _ m e1 (λ word word-is e2.
    let word-read = number_takes whole side.1 word.0 word.1 side-read.0.fits word-is in
    step (number_at whole word.1) _ m e2 (λ file file-is e3.
    let file-read = number_takes whole word.1 file.0 file.1 word-read.0.fits file-is in
    step (number_at whole file.1) _ m e3 (λ n n-is e4.
    let n-read = number_takes whole file.1 n.0 n.1 file-read.0.fits n-is in
    step (ok_or (mark_of h last side.0 word.0 file.0 n.0) (errors.BadField fields.Line (whole - length bytes))) _ m e4 (λ mark mark-is e5.
    let made = mark_is h last side.0 word.0 file.0 n.0 mark (ok_or_is (mark_of h last side.0 word.0 file.0 n.0) _ mark mark-is) in
    let t3 = Takes-then word.1 (number file.0) file.1 (number n.0) n.1 file-read.0 n-read.0 in
    let t2 = Takes-then side.1 (number word.0) word.1 _ n.1 word-read.0 t3 in
    let t1 = Takes-then bytes (number side.0) side.1 _ n.1 side-read.0 t2 in
    let text : numbers (side.0 ∷ word.0 ∷ file.0 ∷ n.0 ∷ []) ≡ line mark = sym (rw (made.side, made.word, made.file, made.line) refl) in
    subst (λ (x : LineMark × List ℕ). LineRead h last bytes x.0 x.1) (ok_is (mark, n.1) m e5) (record { takes = subst (λ (t : List ℕ). Takes bytes t n.1) text t1; good = made.good; small = rw made.line n-read.1 }))))))

record IsLine (h : ImageHeader) (last : Option LineMark) (m : LineMark) : Type 0 where
  pub follows : follows last m ≡ true
  pub word : m.word < code_length h m.side
  pub file : m.file < h.names
  pub line : 0 < m.line

IsLine-from_test : (h : ImageHeader) (last : Option LineMark) (m : LineMark) → is_line h last m ≡ true → IsLine h last m
IsLine-from_test h last m e =
    let a = and_parts (follows last m) (ltb m.word (code_length h m.side) && (ltb m.file h.names && ltb 0 m.line)) e in
    let b = and_parts (ltb m.word (code_length h m.side)) (ltb m.file h.names && ltb 0 m.line) a.1 in
    let c = and_parts (ltb m.file h.names) (ltb 0 m.line) b.1 in
    record { follows = a.0; word = ltb-true m.word (code_length h m.side) b.0; file = ltb-true m.file h.names c.0; line = ltb-true 0 m.line c.1 }

code_is_small : (h : ImageHeader) (s : Side) → HeaderFits h → code_length h s ≤ 33554432
code_is_small h A fits = fits.words_a.1
code_is_small h E fits = fits.words_e.1

side_is_small : (s : Side) → side_number s < 2 ^ 32
side_is_small A = lit< tt
side_is_small E = lit< tt

pub line_again : (whole : ℕ) (h : ImageHeader) (last : Option LineMark) (m : LineMark) (rest : List ℕ) → HeaderFits h → is_line h last m ≡ true → m.line < 2 ^ 32 → line_at whole h last (line m ++ rest) ≡ Ok (m, rest)
unfolding line_at
line_again whole h last m rest fits good small =
    let is = IsLine-from_test h last m good in
    let r3 : List ℕ = number m.line ++ rest in
    let r2 : List ℕ = number m.file ++ r3 in
    let r1 : List ℕ = number m.word ++ r2 in
    let word-small : m.word < 2 ^ 32 = omega (arith, is.word, code_is_small h m.side fits) in
    let file-small : m.file < 2 ^ 32 = omega (arith, is.file, fits.names) in
    bind_again _ _ (side_number m.side, r1) _ (number_again whole (side_number m.side) r1 (side_is_small m.side))
    (bind_again _ _ (m.word, r2) _ (number_again whole m.word r2 word-small)
    (bind_again _ _ (m.file, r3) _ (number_again whole m.file r3 file-small)
    (bind_again _ _ (m.line, rest) _ (number_again whole m.line rest small)
    (bind_again _ _ m _ (ap (λ (o : Option LineMark). ok_or o (errors.BadField fields.Line (whole - length (line m ++ rest)))) (mark_again h last m good)) refl))))

pub record LinesRead (h : ImageHeader) (last : Option LineMark) (n : ℕ) (bytes : List ℕ) (ms : List LineMark) (rest : List ℕ) : Type 0 where
  pub takes : Takes bytes (flat_map line ms) rest
  pub count : length ms ≡ n
  pub good : are_lines h last ms ≡ true
  pub small : AllByRecursion (λ (m : LineMark). m.line < 2 ^ 32) ms

pub lines_take : (whole : ℕ) (h : ImageHeader) (last : Option LineMark) (n : ℕ) (bytes : List ℕ) (ms : List LineMark × List ℕ) → IsBytes bytes → lines_at whole h last n bytes ≡ Ok ms → LinesRead h last n bytes ms.0 ms.1
unfolding lines_at
lines_take whole h last zero bytes ms fits e =
    subst (λ (x : List LineMark × List ℕ). LinesRead h last 0 bytes x.0 x.1) (ok_is ([], bytes) ms e) (record { takes = record { parts = refl; fits = fits }; count = refl; good = refl; small = tt })
lines_take whole h last (suc n) bytes ms fits e =
    step (line_at whole h last bytes) _ ms e (λ first first-is e1.
    let first-read = line_takes whole h last bytes first fits first-is in
    step (lines_at whole h (Some first.0) n first.1) _ ms e1 (λ others others-are e2.
    let others-read = lines_take whole h (Some first.0) n first.1 others first-read.takes.fits others-are in
    let both = Takes-then bytes (line first.0) first.1 (flat_map line others.0) others.1 first-read.takes others-read.takes in
    subst (λ (x : List LineMark × List ℕ). LinesRead h last (suc n) bytes x.0 x.1) (ok_is (first.0 ∷ others.0, others.1) ms e2) (record { takes = both; count = ap suc others-read.count; good = and_from (is_line h last first.0) (are_lines h (Some first.0) others.0) first-read.good others-read.good; small = (first-read.small, others-read.small) })))

pub lines_again : (whole : ℕ) (h : ImageHeader) (last : Option LineMark) (ms : List LineMark) (rest : List ℕ) → HeaderFits h → are_lines h last ms ≡ true → AllByRecursion (λ (m : LineMark). m.line < 2 ^ 32) ms → lines_at whole h last (length ms) (flat_map line ms ++ rest) ≡ Ok (ms, rest)
unfolding lines_at
lines_again whole h last [] rest fits good small = refl
lines_again whole h last (m ∷ ms) rest fits good small =
    let parts = and_parts (is_line h last m) (are_lines h (Some m) ms) good in
    let r1 : List ℕ = flat_map line ms ++ rest in
    let read : lines_at whole h last (suc (length ms)) (line m ++ r1) ≡ Ok (m ∷ ms, rest) =
    bind_again _ _ (m, r1) _ (line_again whole h last m r1 fits parts.0 small.0)
    (bind_again _ _ (ms, rest) _ (lines_again whole h (Some m) ms rest fits parts.1 small.1) refl) in
    ap (lines_at whole h last (suc (length ms))) (append_assoc (line m) (flat_map line ms) rest) ∙ read

-- ---- names

pub record NameRead (bytes : List ℕ) (n : List ℕ) (rest : List ℕ) : Type 0 where
  pub takes : Takes bytes (name n) rest
  pub good : is_name n ≡ true

pub name_takes : (whole : ℕ) (bytes : List ℕ) (n : List ℕ × List ℕ) → IsBytes bytes → name_at whole bytes ≡ Ok n → NameRead bytes n.0 n.1
unfolding name_at
name_takes whole bytes n fits e =
    step (field_at whole fields.Name name_range bytes) _ n e (λ size size-is e1.
    let size-read = field_takes whole fields.Name name_range bytes size fits size-is in
    step (bytes_at whole size.0 size.1) _ n e1 (λ text text-is e2.
    let text-read = bytes_take whole size.0 size.1 text size-read.takes.fits text-is in
    let g = holds_ok (is_utf8 text.0) (errors.BadField fields.Name (whole - length bytes)) text n e2 in
    let both = Takes-then bytes (number size.0) size.1 text.0 text.1 size-read.takes text-read.takes in
    let whole-text : Takes bytes (name text.0) text.1 = subst (λ (k : ℕ). Takes bytes (number k ++ text.0) text.1) (sym text-read.count) both in
    let in-range : is_in name_range (length text.0) ≡ true = rw text-read.count (test-from_IsIn name_range size.0 size-read.is_in) in
    subst (λ (x : List ℕ × List ℕ). NameRead bytes x.0 x.1) g.1 (record { takes = whole-text; good = and_from (is_in name_range (length text.0)) (is_utf8 text.0) in-range g.0 })))

pub name_again : (whole : ℕ) (n rest : List ℕ) → is_name n ≡ true → name_at whole (name n ++ rest) ≡ Ok (n, rest)
unfolding name_at
name_again whole n rest good =
    let parts = and_parts (is_in name_range (length n)) (is_utf8 n) good in
    bind_again _ _ (length n, n ++ rest) _ (field_again whole fields.Name name_range (length n) (n ++ rest) (IsIn-from_test name_range (length n) parts.0) (lit< tt))
    (bind_again _ _ (n, rest) _ (bytes_again whole (length n) n rest refl) (rw parts.1 refl))

pub record NamesRead (n : ℕ) (bytes : List ℕ) (ns : List (List ℕ)) (rest : List ℕ) : Type 0 where
  pub takes : Takes bytes (flat_map name ns) rest
  pub count : length ns ≡ n
  pub good : list_all is_name ns ≡ true

pub names_take : (whole n : ℕ) (bytes : List ℕ) (ns : List (List ℕ) × List ℕ) → IsBytes bytes → names_at whole n bytes ≡ Ok ns → NamesRead n bytes ns.0 ns.1
unfolding names_at
names_take whole zero bytes ns fits e =
    subst (λ (x : List (List ℕ) × List ℕ). NamesRead 0 bytes x.0 x.1) (ok_is ([], bytes) ns e) (record { takes = record { parts = refl; fits = fits }; count = refl; good = refl })
names_take whole (suc n) bytes ns fits e =
    step (name_at whole bytes) _ ns e (λ first first-is e1.
    let first-read = name_takes whole bytes first fits first-is in
    step (names_at whole n first.1) _ ns e1 (λ others others-are e2.
    let others-read = names_take whole n first.1 others first-read.takes.fits others-are in
    let both = Takes-then bytes (name first.0) first.1 (flat_map name others.0) others.1 first-read.takes others-read.takes in
    subst (λ (x : List (List ℕ) × List ℕ). NamesRead (suc n) bytes x.0 x.1) (ok_is (first.0 ∷ others.0, others.1) ns e2) (record { takes = both; count = ap suc others-read.count; good = and_from (is_name first.0) (list_all is_name others.0) first-read.good others-read.good })))

pub names_again : (whole : ℕ) (ns : List (List ℕ)) (rest : List ℕ) → list_all is_name ns ≡ true → names_at whole (length ns) (flat_map name ns ++ rest) ≡ Ok (ns, rest)
unfolding names_at
names_again whole [] rest good = refl
names_again whole (n ∷ ns) rest good =
    let parts = and_parts (is_name n) (list_all is_name ns) good in
    let r1 : List ℕ = flat_map name ns ++ rest in
    let read : names_at whole (suc (length ns)) (name n ++ r1) ≡ Ok (n ∷ ns, rest) =
    bind_again _ _ (n, r1) _ (name_again whole n r1 parts.0)
    (bind_again _ _ (ns, rest) _ (names_again whole ns rest parts.1) refl) in
    ap (names_at whole (suc (length ns))) (append_assoc (name n) (flat_map name ns) rest) ∙ read
