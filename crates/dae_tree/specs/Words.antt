-- The words of specifiers, in any order: at most one storage class, any const, and one type (C90 6.5.1 and 6.5.2).
use Rattle.std.specs.Prelude.{Bool, true, false, not, ◌||◌, if◌then◌else◌, List, ◌∷◌, Option, Some, None}
use Rattle.std.specs.Option.{is_some, is_none, unwrap_or}
use Rattle.dae_base.specs.declared.Signedness.{Signedness}
use Rattle.dae_base.specs.declared.Signedness.TheVariants.{Signed, Unsigned}
use Rattle.dae_tree.specs.declared.words.Keyword.{Keyword}
use Rattle.dae_tree.specs.declared.words.Keyword.TheVariants as keywords
use Rattle.dae_tree.specs.declared.seen.Arithmetic.{Arithmetic}
use Rattle.dae_tree.specs.declared.seen.Arithmetic.TheVariants as arithmetic
use Rattle.dae_tree.specs.declared.seen.Seen.{Seen}
use Rattle.dae_tree.specs.Marks.{TokenMark, word, name}
use Rattle.dae_tree.specs.Trees.{Specifiers, no_specifiers, specifier_then, Specifier, Word}
use Rattle.dae_tree.specs.Names.{Names, is_type}

abbrev pub nothing_seen : Seen
nothing_seen = record { storage = None; signedness = None; char = false; size = None; int = false; whole = false }

abbrev pub has_type : Seen → Bool
has_type seen = is_some seen.signedness || seen.char || is_some seen.size || seen.int || seen.whole

-- whether a word may stand behind those that were read
abbrev pub admits : Seen → Keyword → Bool
admits seen keywords.Extern = is_none seen.storage
admits seen keywords.Static = is_none seen.storage
admits seen keywords.Auto = is_none seen.storage
admits seen keywords.Register = is_none seen.storage
admits seen keywords.Typedef = is_none seen.storage
admits seen keywords.Const = true
admits seen keywords.Signed = not (is_some seen.signedness || seen.whole)
admits seen keywords.Unsigned = not (is_some seen.signedness || seen.whole)
admits seen keywords.Char = not (seen.char || is_some seen.size || seen.int || seen.whole)
admits seen keywords.Short = not (is_some seen.size || seen.char || seen.whole)
admits seen keywords.Long = not (is_some seen.size || seen.char || seen.whole)
admits seen keywords.Int = not (seen.int || seen.char || seen.whole)
admits seen keywords.Void = not (has_type seen)
admits seen keywords.Struct = not (has_type seen)
admits seen keywords.Enum = not (has_type seen)
admits seen _ = false

abbrev pub with_word : Seen → Keyword → Seen
with_word seen keywords.Extern = record seen { storage = Some keywords.Extern }
with_word seen keywords.Static = record seen { storage = Some keywords.Static }
with_word seen keywords.Auto = record seen { storage = Some keywords.Auto }
with_word seen keywords.Register = record seen { storage = Some keywords.Register }
with_word seen keywords.Typedef = record seen { storage = Some keywords.Typedef }
with_word seen keywords.Signed = record seen { signedness = Some Signed }
with_word seen keywords.Unsigned = record seen { signedness = Some Unsigned }
with_word seen keywords.Char = record seen { char = true }
with_word seen keywords.Short = record seen { size = Some keywords.Short }
with_word seen keywords.Long = record seen { size = Some keywords.Long }
with_word seen keywords.Int = record seen { int = true }
with_word seen keywords.Void = record seen { whole = true }
with_word seen _ = seen

abbrev pub with_whole : Seen → Seen
with_whole seen = record seen { whole = true }

abbrev pub seen_after : Seen → Specifier → Seen
seen_after seen (Word p k) = with_word seen k
seen_after seen _ = with_whole seen

-- what is seen behind all of these
abbrev pub seen_behind : Seen → Specifiers → Seen
seen_behind seen no_specifiers = seen
seen_behind seen (specifier_then w ws) = seen_behind (seen_after seen w) ws

-- a word of specifiers that is a specifier by itself
abbrev pub is_tagged_word : Keyword → Bool
is_tagged_word keywords.Struct = true
is_tagged_word keywords.Enum = true
is_tagged_word _ = false

-- whether a token begins specifiers
abbrev pub begins_specifiers : Names → List TokenMark → Bool
begins_specifiers names (word k p ∷ ts) = admits nothing_seen k
begins_specifiers names (name n ∷ ts) = is_type names n.number
begins_specifiers names _ = false

-- ---- the arithmetic type that words name, where no type stands alone (C90 6.5.2)

abbrev pub char_type : Option Signedness → Arithmetic
char_type None = arithmetic.Char
char_type (Some Signed) = arithmetic.SignedChar
char_type (Some Unsigned) = arithmetic.UnsignedChar

-- the one of two types, a signed and an unsigned one
abbrev pub by_signedness : Signedness → Arithmetic → Arithmetic → Arithmetic
by_signedness Signed x y = x
by_signedness Unsigned x y = y

abbrev pub sized_type : Option Keyword → Signedness → Arithmetic
sized_type (Some keywords.Short) s = by_signedness s arithmetic.Short arithmetic.UnsignedShort
sized_type (Some keywords.Long) s = by_signedness s arithmetic.Long arithmetic.UnsignedLong
sized_type _ s = by_signedness s arithmetic.Int arithmetic.Unsigned

-- but for `char`, a type is signed where no word says more
abbrev pub arithmetic_type : Seen → Arithmetic
arithmetic_type seen = if seen.char then char_type seen.signedness else sized_type seen.size (unwrap_or seen.signedness Signed)
