-- Reading from left to right, with the first fault that is met. `whole` is the number of all bytes, and `bytes` are
-- those from a field on.
use Rattle.std.specs.Prelude.{◌≡◌, ℕ, zero, suc, ◌-◌, ◌*◌, List, [], ◌∷◌, length, take, drop, Option, Some, None, Result, Ok, Err, nat_lt, ◌==◌, if◌then◌else◌}
use Rattle.std.specs.Option.{ok_or}
use Rattle.std.specs.Int.{w32, from_le_bytes}
use Rattle.std.specs.Str.{is_utf8}
use Rattle.dae_base.specs.declared.Side.{Side}
use Rattle.dae_base.specs.declared.Side.TheVariants.{A, E}
use Rattle.dae_base.specs.declared.Depths.{Depths}
use Rattle.dae_image.specs.declared.LineMark.{LineMark}
use Rattle.dae_image.specs.declared.header.ImageHeader.{ImageHeader}
use Rattle.dae_image.specs.declared.fields.FieldRange.{FieldRange}
use Rattle.dae_image.specs.declared.fault.Field.{Field}
use Rattle.dae_image.specs.declared.fault.Field.TheVariants as fields
use Rattle.dae_image.specs.declared.fault.ImageError.{ImageError}
use Rattle.dae_image.specs.declared.fault.ImageError.TheVariants as errors
use Rattle.dae_image.specs.Ranges.{is_in, magic_range, version_range, depth_range, memory_range, calls_range, private_range, entry_range, words_range, content_range, line_count_range, name_count_range, name_range}
use Rattle.dae_image.specs.Contents.{ImageContents, is_line}

infixl 10 ◌>>=◌
abbrev pub ◌>>=◌ : {A B : Type 0} → Result A ImageError → (A → Result B ImageError) → Result B ImageError
(Ok x) >>= f = f x
(Err e) >>= f = Err e

-- What a function returned, seen by view, is what reading gives, unless memory ran out.
abbrev pub Fails : {Y : Type 0} → ImageError → Result Y ImageError → Type 0
Fails (errors.Short length) read = read ≡ Err (errors.Short length)
Fails (errors.BadField field offset) read = read ≡ Err (errors.BadField field offset)
Fails (errors.Trailing offset) read = read ≡ Err (errors.Trailing offset)
Fails errors.Memory read = Unit {0}

abbrev pub Gives : {X Y : Type 0} → (X → Y) → Result X ImageError → Result Y ImageError → Type 0
Gives view (Ok x) read = read ≡ Ok (view x)
Gives view (Err e) read = Fails e read

-- A field is a value and the bytes after it.
abbrev pub number_at : ℕ → List ℕ → Result (ℕ × List ℕ) ImageError
number_at whole bytes = if nat_lt (length bytes) 4 then Err (errors.Short whole) else Ok (from_le_bytes w32 (take 4 bytes), drop 4 bytes)

unfoldable pub field_at : ℕ → Field → FieldRange → List ℕ → Result (ℕ × List ℕ) ImageError
field_at whole field range bytes = do
  n ← number_at whole bytes
  if is_in range n.0 then Ok n else Err (errors.BadField field (whole - length bytes))

unfoldable pub version_at : ℕ → List ℕ → Result (ℕ × List ℕ) ImageError
version_at whole bytes = do
  letters ← field_at whole fields.Magic magic_range bytes
  field_at whole fields.Version version_range letters.1

-- version 1 has no field for copies
unfoldable pub copies_at : ℕ → ℕ → List ℕ → Result (ℕ × List ℕ) ImageError
copies_at whole version bytes = if version == 1 then Ok (0, bytes) else field_at whole fields.Cq depth_range bytes

unfoldable pub budget_at : ℕ → ℕ → List ℕ → Result (Depths × List ℕ) ImageError
budget_at whole version bytes = do
  ld ← field_at whole fields.Ld depth_range bytes
  al ← field_at whole fields.Al depth_range ld.1
  sa ← field_at whole fields.Sa depth_range al.1
  sd ← field_at whole fields.Sd depth_range sa.1
  ab ← field_at whole fields.Ab depth_range sd.1
  eb ← field_at whole fields.Eb depth_range ab.1
  cq ← copies_at whole version eb.1
  Ok (record { ld = ld.0; al = al.0; sa = sa.0; sd = sd.0; ab = ab.0; eb = eb.0; cq = cq.0 }, cq.1)

unfoldable pub header_at : ℕ → List ℕ → Result (ImageHeader × List ℕ) ImageError
header_at whole bytes = do
  version ← version_at whole bytes
  budget ← budget_at whole version.0 version.1
  memory ← field_at whole fields.Memory memory_range budget.1
  calls ← field_at whole fields.Calls calls_range memory.1
  private_a ← field_at whole fields.PrivateA private_range calls.1
  private_e ← field_at whole fields.PrivateE private_range private_a.1
  entry_a ← field_at whole fields.EntryA entry_range private_e.1
  entry_e ← field_at whole fields.EntryE entry_range entry_a.1
  words_a ← field_at whole fields.WordsA (words_range entry_a.0) entry_e.1
  words_e ← field_at whole fields.WordsE (words_range entry_e.0) words_a.1
  content ← field_at whole fields.DataLength (content_range memory.0) words_e.1
  lines ← field_at whole fields.LineCount line_count_range content.1
  names ← field_at whole fields.NameCount name_count_range lines.1
  Ok (
    record {
      budget = budget.0;
      memory = memory.0;
      calls = calls.0;
      private_a = private_a.0;
      private_e = private_e.0;
      entry_a = entry_a.0;
      entry_e = entry_e.0;
      words_a = words_a.0;
      words_e = words_e.0;
      content = content.0;
      lines = lines.0;
      names = names.0;
    },
    names.1,
  )

-- the numbers that bytes spell, four bytes each
abbrev pub words_of : List ℕ → List ℕ
words_of (a ∷ b ∷ c ∷ d ∷ bytes) = from_le_bytes w32 (a ∷ b ∷ c ∷ d ∷ []) ∷ words_of bytes
words_of _ = []

unfoldable pub bytes_at : ℕ → ℕ → List ℕ → Result (List ℕ × List ℕ) ImageError
bytes_at whole count bytes = if nat_lt (length bytes) count then Err (errors.Short whole) else Ok (take count bytes, drop count bytes)

unfoldable pub words_at : ℕ → ℕ → List ℕ → Result (List ℕ × List ℕ) ImageError
words_at whole count bytes = do
  code ← bytes_at whole (4 * count) bytes
  Ok (words_of code.0, code.1)

abbrev pub side_of : ℕ → Option Side
side_of zero = Some A
side_of (suc zero) = Some E
side_of (suc (suc n)) = None

abbrev pub mark_on : ImageHeader → Option LineMark → Option Side → ℕ → ℕ → ℕ → Option LineMark
mark_on h last None word file line = None
mark_on h last (Some side) word file line = let mark : LineMark = record { side = side; word = word; file = file; line = line } in if is_line h last mark then Some mark else None

-- the mark that four numbers give behind the last one
unfoldable pub mark_of : ImageHeader → Option LineMark → ℕ → ℕ → ℕ → ℕ → Option LineMark
mark_of h last side word file line = mark_on h last (side_of side) word file line

unfoldable pub line_at : ℕ → ImageHeader → Option LineMark → List ℕ → Result (LineMark × List ℕ) ImageError
line_at whole h last bytes = do
  side ← number_at whole bytes
  word ← number_at whole side.1
  file ← number_at whole word.1
  line ← number_at whole file.1
  mark ← ok_or (mark_of h last side.0 word.0 file.0 line.0) (errors.BadField fields.Line (whole - length bytes))
  Ok (mark, line.1)

unfoldable pub lines_at : ℕ → ImageHeader → Option LineMark → ℕ → List ℕ → Result (List LineMark × List ℕ) ImageError
lines_at whole h last zero bytes = Ok ([], bytes)
lines_at whole h last (suc n) bytes = do
  first ← line_at whole h last bytes
  others ← lines_at whole h (Some first.0) n first.1
  Ok (first.0 ∷ others.0, others.1)

unfoldable pub name_at : ℕ → List ℕ → Result (List ℕ × List ℕ) ImageError
name_at whole bytes = do
  size ← field_at whole fields.Name name_range bytes
  name ← bytes_at whole size.0 size.1
  if is_utf8 name.0 then Ok name else Err (errors.BadField fields.Name (whole - length bytes))

unfoldable pub names_at : ℕ → ℕ → List ℕ → Result (List (List ℕ) × List ℕ) ImageError
names_at whole zero bytes = Ok ([], bytes)
names_at whole (suc n) bytes = do
  first ← name_at whole bytes
  others ← names_at whole n first.1
  Ok (first.0 ∷ others.0, others.1)

unfoldable pub body_at : ℕ → ImageHeader → List ℕ → Result (ImageContents × List ℕ) ImageError
body_at whole h bytes = do
  code_a ← words_at whole h.words_a bytes
  code_e ← words_at whole h.words_e code_a.1
  content ← bytes_at whole h.content code_e.1
  lines ← lines_at whole h None h.lines content.1
  names ← names_at whole h.names lines.1
  Ok (
    record {
      budget = h.budget;
      memory = h.memory;
      calls = h.calls;
      private_a = h.private_a;
      private_e = h.private_e;
      entry_a = h.entry_a;
      entry_e = h.entry_e;
      code_a = code_a.0;
      code_e = code_e.0;
      content = content.0;
      lines = lines.0;
      names = names.0;
    },
    names.1,
  )

-- all of the bytes
unfoldable pub image_at : List ℕ → Result ImageContents ImageError
image_at bytes = do
  head ← header_at (length bytes) bytes
  image ← body_at (length bytes) head.0 head.1
  if length image.1 == 0 then Ok image.0 else Err (errors.Trailing (length bytes - length image.1))
