-- Files that are read have no more tokens and bytes of literals than there is room for.
use Rattle.std.proofs.Common.{◌≡◌, ℕ, zero, suc, ◌+◌, ◌-◌, ◌≤◌, Bool, true, false, if◌then◌else◌, nat_le, List, [], ◌∷◌, ◌++◌, length, Option, Some, None, Result, Ok, Err, refl, sym, ap, ◌∙◌, subst, arith}
use Rattle.std.proofs.lemmas.List.{length-append}
use Rattle.std.proofs.lemmas.List.Sums.{sum_by-append}
use Rattle.std.specs.List.{sum_by}
use Rattle.std.proofs.lemmas.Bool.{leb-true}
use Rattle.dae_tree.specs.declared.faults.LexError.{LexError}
use Rattle.dae_tree.specs.declared.faults.LexError.TheVariants.{Refused}
use Rattle.dae_tree.specs.declared.faults.Construct.TheVariants.{LiteralsTooLong}
use Rattle.dae_tree.specs.declared.tokens.Room.{Room}
use Rattle.dae_tree.specs.declared.tokens.Token.{Token}
use Rattle.dae_tree.specs.FileViews.{view_externals}
use Rattle.dae_tree.specs.Files.{FileContents}
use Rattle.dae_tree.specs.Marks.{TokenMark, marks}
use Rattle.dae_tree.specs.Pieces.{Cut}
use Rattle.dae_tree.specs.Reading.{Reading}
use Rattle.dae_tree.specs.Replacing.{Meaning, keyword, sign, name, constant, literal, TokenRead, TextItem, taken, replaced, refused, Tested, token, failed, tested_one, literal_length, within_replacements, within_tokens, tested, within_literals, before_all, outcome}
use Rattle.dae_tree.specs.Directives.{replaced_lines}
use Rattle.dae_tree.specs.Tokens as tree
use Rattle.dae_tree.specs.Tokens.{literal_of, before, before_by, joined_literals, names_with, literals_with, literals_after, numbered, room_after, reading_of, lines_in, tested_of, reads_of, with_room}
use Rattle.dae_parse.specs.Parsed.{IsFileOf}
use Rattle.dae_sizes.specs.Sources.{tokens_in, bytes_of, bytes_in}
use Rattle.dae_accept.specs.Read.{AreFilesOf, AreRead, readings_from, whole_room, with_first}
use Rattle.dae_accept.specs.Origins.{ReadAreWithin}

-- ---- what is read of one text is within its limits

abbrev bytes_read : List TokenRead → ℕ
bytes_read [] = 0
bytes_read (t ∷ ts) = literal_length t.meaning + bytes_read ts

abbrev tokens_tested : List Tested → ℕ
tokens_tested [] = 0
tokens_tested (token t ∷ ts) = suc (tokens_tested ts)
tokens_tested (failed e ∷ ts) = tokens_tested ts

abbrev AreWithin : ℕ → ℕ → Result (List TokenRead) LexError → Type 0
AreWithin n l (Ok ts) = (length ts ≤ n) × (bytes_read ts ≤ l)
AreWithin n l (Err e) = Unit {0}

one_more : (t : TokenRead) (n l : ℕ) → literal_length t.meaning ≤ l → (x : Result (List TokenRead) LexError) → AreWithin n (l - literal_length t.meaning) x → AreWithin (suc n) l (before_all t x)
one_more t n l le (Ok ts) h = (let a = h.0 in omega (arith, a), let b = h.1 in omega (arith, b, le))
one_more t n l le (Err e) h = tt

are_within : (l : ℕ) (xs : List Tested) → AreWithin (tokens_tested xs) l (outcome (within_literals l xs))
are_within l [] = (omega arith, omega arith)
are_within l (failed e ∷ xs) = tt
are_within l (token t ∷ xs) = by (are_within (l - literal_length t.meaning) xs) (nat_le (literal_length t.meaning) l) refl
  where
    by : AreWithin (tokens_tested xs) (l - literal_length t.meaning) (outcome (within_literals (l - literal_length t.meaning) xs)) → (b : Bool) → nat_le (literal_length t.meaning) l ≡ b
        → AreWithin (suc (tokens_tested xs)) l (outcome (if b then token t ∷ within_literals (l - literal_length t.meaning) xs else failed (Refused LiteralsTooLong t.place) ∷ within_literals l xs))
    by later true e = one_more t (tokens_tested xs) l (leb-true (literal_length t.meaning) l e) (outcome (within_literals (l - literal_length t.meaning) xs)) later
    by later false e = tt

one_tested : (x : Tested) (xs : List Tested) (n : ℕ) → tokens_tested xs ≤ n → tokens_tested (x ∷ xs) ≤ suc n
one_tested (token t) xs n h = omega (arith, h)
one_tested (failed e) xs n h = omega (arith, h)

few_tested : (n : ℕ) (items : List TextItem) → tokens_tested (tested (within_tokens n items)) ≤ n
few_tested zero [] = omega arith
few_tested (suc n) [] = omega arith
few_tested zero (taken m o ∷ items) = few_tested zero items
few_tested (suc n) (taken m o ∷ items) = one_tested (tested_one m o) (tested (within_tokens n items)) n (few_tested n items)
few_tested zero (replaced o ∷ items) = few_tested zero items
few_tested (suc n) (replaced o ∷ items) = few_tested (suc n) items
few_tested zero (refused e ∷ items) = few_tested zero items
few_tested (suc n) (refused e ∷ items) = few_tested (suc n) items

fewer : (m n l : ℕ) (x : Result (List TokenRead) LexError) → m ≤ n → AreWithin m l x → AreWithin n l x
fewer m n l (Ok ts) le h = (let a = h.0 in omega (arith, a, le), h.1)
fewer m n l (Err e) le h = tt

reads_within : (room : Room) (items : List TextItem) → AreWithin room.tokens room.literal_bytes (reads_of room items)
reads_within room items =
    let xs = tested (within_tokens room.tokens (within_replacements room.replacements items)) in
    fewer (tokens_tested xs) room.tokens room.literal_bytes (outcome (within_literals room.literal_bytes xs)) (few_tested room.tokens (within_replacements room.replacements items)) (are_within room.literal_bytes xs)

-- ---- adjacent literals join

length_of : (m : Meaning) (a : List ℕ) → literal_of m ≡ Some a → literal_length m ≡ length a
length_of (literal bytes) a e = let q : bytes ≡ a = cc in ap length q
length_of (keyword k) a e = absurd cc
length_of (sign s) a e = absurd cc
length_of (name n) a e = absurd cc
length_of (constant c) a e = absurd cc

before_small : (t : TokenRead) (us : List TokenRead) → (length (before t us) ≤ suc (length us)) × (bytes_read (before t us) ≤ literal_length t.meaning + bytes_read us)
before_small t [] = (omega arith, omega arith)
before_small t (u ∷ us) = by (literal_of t.meaning) (literal_of u.meaning) refl refl
  where
    by : (x y : Option (List ℕ)) → literal_of t.meaning ≡ x → literal_of u.meaning ≡ y
        → (length (before_by x y t u us) ≤ suc (suc (length us))) × (bytes_read (before_by x y t u us) ≤ literal_length t.meaning + (literal_length u.meaning + bytes_read us))
    by (Some a) (Some b) p q = (
      omega arith,
      let m = length_of t.meaning a p in let n = length_of u.meaning b q in let both = length-append a b in omega (arith, m, n, both),
    )
    by (Some a) None p q = (omega arith, omega arith)
    by None y p q = (omega arith, omega arith)

joined_small : (ts : List TokenRead) → (length (joined_literals ts) ≤ length ts) × (bytes_read (joined_literals ts) ≤ bytes_read ts)
joined_small [] = (omega arith, omega arith)
joined_small (t ∷ ts) =
    let h = joined_small ts in
    let k = before_small t (joined_literals ts) in
    let a = h.0 in let b = h.1 in let c = k.0 in let d = k.1 in (omega (arith, a, c), omega (arith, b, d))

-- ---- tokens and literals have their numbers

many_numbered : (names literals : List (List ℕ)) (ts : List TokenRead) → length (numbered names literals ts) ≡ length ts
many_numbered names literals [] = refl
many_numbered names literals (t ∷ ts) = ap suc (many_numbered (names_with names t.meaning) (literals_with literals t.meaning) ts)

bytes-append : (xs ys : List (List ℕ)) → bytes_of (xs ++ ys) ≡ bytes_of xs + bytes_of ys
bytes-append [] ys = omega arith
bytes-append (x ∷ xs) ys = let h = bytes-append xs ys in omega (arith, h)

bytes_with : (literals : List (List ℕ)) (m : Meaning) → bytes_of (literals_with literals m) ≡ bytes_of literals + literal_length m
bytes_with literals (literal bytes) = let h = bytes-append literals (bytes ∷ []) in omega (arith, h)
bytes_with literals (keyword k) = omega arith
bytes_with literals (sign s) = omega arith
bytes_with literals (name n) = omega arith
bytes_with literals (constant c) = omega arith

bytes_after : (literals : List (List ℕ)) (ts : List TokenRead) → bytes_of (literals_after literals ts) ≡ bytes_of literals + bytes_read ts
bytes_after literals [] = omega arith
bytes_after literals (t ∷ ts) =
    let h = bytes_with literals t.meaning in
    let k = bytes_after (literals_with literals t.meaning) ts in omega (arith, h, k)

-- ---- the room that is left

bytes_sum : (ts : List TokenRead) → sum_by (λ t. literal_length t.meaning) ts ≡ bytes_read ts
bytes_sum [] = refl
bytes_sum (t ∷ ts) =
    let h = bytes_sum ts in
    let k = sum_by-append (λ t. literal_length t.meaning) (t ∷ []) ts in omega (arith, h, k)

abbrev LeavesRoom : Room → Result (Reading × Room) LexError → Type 0
LeavesRoom room (Ok x) =
    (let r = x.0 in let left = x.1 in (length r.tokens + left.tokens ≤ room.tokens) × (bytes_of r.literals + left.literal_bytes ≤ room.literal_bytes))
LeavesRoom room (Err e) = Unit {0}

leaves : (file : ℕ) (text : List ℕ) (room : Room) (lines : List (List Cut)) (items : List TextItem) (x : Result (List TokenRead) LexError) → AreWithin room.tokens room.literal_bytes x → LeavesRoom room (with_room file text room lines items x)
leaves file text room lines items (Ok reads) h =
    let a = h.0 in
    let b = h.1 in
    let small = joined_small reads in
    let c = small.0 in
    let d = small.1 in
    let many = many_numbered [] [] (joined_literals reads) in
    let bytes = bytes_after [] (joined_literals reads) in
    let sum = bytes_sum reads in (omega (arith, a, c, many), omega (arith, b, d, bytes, sum))
leaves file text room lines items (Err e) h = tt

one_leaves : (file : ℕ) (text : List ℕ) (room : Room) → LeavesRoom room (tree.tokens_of file text room)
one_leaves file text room =
    let lines = lines_in file text in
    let items = replaced_lines room.replacements [] lines in leaves file text room lines items (reads_of room items) (reads_within room items)

-- ---- all texts

abbrev tokens_read : List Reading → ℕ
tokens_read [] = 0
tokens_read (r ∷ rs) = length r.tokens + tokens_read rs

abbrev literals_read : List Reading → ℕ
literals_read [] = 0
literals_read (r ∷ rs) = bytes_of r.literals + literals_read rs

abbrev FitRoom : Room → Result (List Reading) LexError → Type 0
FitRoom room (Ok rs) = (tokens_read rs ≤ room.tokens) × (literals_read rs ≤ room.literal_bytes)
FitRoom room (Err e) = Unit {0}

first_fits : (room left : Room) (r : Reading) → LeavesRoom room (Ok (r, left)) → (y : Result (List Reading) LexError) → FitRoom left y → FitRoom room (with_first r y)
first_fits room left r h (Ok rs) k = (let a = h.0 in let b = k.0 in omega (arith, a, b), let c = h.1 in let d = k.1 in omega (arith, c, d))
first_fits room left r h (Err e) k = tt

all_fit : (file : ℕ) (room : Room) (texts : List (List ℕ)) → FitRoom room (readings_from file room texts)
all_fit file room [] = (omega arith, omega arith)
all_fit file room (text ∷ texts) = by (λ left. all_fit (file + 1) left texts) (tree.tokens_of file text room) (one_leaves file text room)
  where
    by : ((left : Room) → FitRoom left (readings_from (file + 1) left texts)) → (x : Result (Reading × Room) LexError) → LeavesRoom room x
        → FitRoom room (elim x [ Ok x ↦ with_first x.0 (readings_from (file + 1) x.1 texts) | Err e ↦ Err e ])
    by later (Ok x) h = first_fits room x.1 x.0 h (readings_from (file + 1) x.1 texts) (later x.1)
    by later (Err e) h = tt

-- ---- the files of readings

marks-length : (ts : List Token) → length (marks ts) ≡ length ts
marks-length [] = refl
marks-length (t ∷ ts) = ap suc (marks-length ts)

files_as_read : (rs : List Reading) (cs : List FileContents) → AreFilesOf rs cs → (tokens_in cs ≡ tokens_read rs) × (bytes_in cs ≡ literals_read rs)
files_as_read [] [] h = (refl, refl)
files_as_read [] (c ∷ cs) h = absurd h
files_as_read (r ∷ rs) [] h = absurd h
files_as_read (r ∷ rs) (c ∷ cs) h =
    let one : IsFileOf r c = h.0 in
    let within = one.tree in
    let spelled = ap (λ (ms : List TokenMark). length ms) (within.tree.1) in
    let many = marks-length r.tokens in
    let same = ap bytes_of one.literals in
    let rest = files_as_read rs cs h.1 in
    let a = rest.0 in
    let b = rest.1 in (omega (arith, spelled, many, a), omega (arith, same, b))

pub read_are_within : ReadAreWithin
read_are_within texts files h =
    let fit : FitRoom whole_room (Ok h.readings) = subst (FitRoom whole_room) h.tokens (all_fit 0 whole_room texts) in
    let same = files_as_read h.readings files h.trees in
    let a = fit.0 in let b = fit.1 in let c = same.0 in let d = same.1 in (omega (arith, a, c), omega (arith, b, d))
