-- What the grammar's machine does, by what the machine in memory does.
use Rattle.std.proofs.Common.{◌∷◌}
use Rattle.std.specs.Prelude.{Box}
use Rattle.std.specs.declared.alloc.Global.{Global}
use Rattle.dae_parse_nodes.specs.Parts.{ShowsOperand, ShowsOptional, ShowsSpecified, ShowsEnumerators, ShowsDeclared, ShowsItems, ShowsStatement, ShowsLoop}
use Rattle.dae_parse_grammar.specs.Frames as plain
use Rattle.dae_parse_nodes.specs.declared.values.DoParts.{DoParts}
use Rattle.dae_parse_nodes.specs.declared.values.Loop.{Loop}
use Rattle.dae_parse_states.specs.declared.frames.Doing.TheVariants as doing
use Rattle.dae_parse_states.specs.Frames.{ShowsBefore, ShowsBody, ShowsDoing, is_structure_kind, manner_of}

pub does_enumerated : (b : _) (xs : _) (n : _) (P : plain.Doing → Type 0) (does : plain.Doing) → ShowsDoing (doing.Enumerated b xs n) does
    → ((a : _) (es : _) → ShowsBody b a → ShowsEnumerators xs es → P (plain.enumerated a es n)) → P does
does_enumerated b xs n P (plain.enumerated a es m) shows next = rw (← shows.2) (next a es shows.0 shows.1)
does_enumerated b xs n P _ shows next = absurd shows

pub does_gave_declarator : (d : _) (P : plain.Doing → Type 0) (does : plain.Doing) → ShowsDoing (doing.GaveDeclarator d) does
    → ((e : _) → ShowsDeclared d e → P (plain.gave_declarator e)) → P does
does_gave_declarator d P (plain.gave_declarator e) shows next = next e shows
does_gave_declarator d P _ shows next = absurd shows

pub does_after_item : (s : _) (is : _) (P : plain.Doing → Type 0) (does : plain.Doing) → ShowsDoing (doing.AfterItem s is) does
    → ((ws : _) (i : _) (before : _) → ShowsSpecified s ws → ShowsItems is (i ∷ before) → P (plain.itemed ws i before)) → P does
does_after_item s is P (plain.itemed ws i before) shows next = next ws i before shows.0 shows.1
does_after_item s is P _ shows next = absurd shows

pub does_finishing : (d : DoParts) (P : plain.Doing → Type 0) (does : plain.Doing) → ShowsDoing (doing.Finishing d) does
    → ((c : _) (e : _) → ShowsStatement d.body c → ShowsOperand d.test e → P (plain.finishing d.place c d.word d.paren e)) → P does
does_finishing d P (plain.finishing q c u w e) shows next = rw (← shows.0, ← shows.2, ← shows.3) (next c e shows.1 shows.4)
does_finishing d P _ shows next = absurd shows

pub does_operated : (a : _) (l : _) (P : plain.Doing → Type 0) (does : plain.Doing) → ShowsDoing (doing.Operated a l) does
    → ((e : _) → ShowsOperand a e → P (plain.operated e l)) → P does
does_operated a l P (plain.operated e k) shows next = rw (← shows.1) (next e shows.0)
does_operated a l P _ shows next = absurd shows

pub does_calling : (a : _) (p : _) (l : _) (P : plain.Doing → Type 0) (does : plain.Doing) → ShowsDoing (doing.Calling a p l) does
    → ((e : _) → ShowsOperand a e → P (plain.calling e p l)) → P does
does_calling a p l P (plain.calling e q k) shows next = rw (← shows.1, ← shows.2) (next e shows.0)
does_calling a p l P _ shows next = absurd shows

pub does_tagged : (b : _) (p : _) (n : _) (w : _) (ws : _) (P : plain.Doing → Type 0) (does : plain.Doing) → ShowsDoing (doing.Tagged b p n w ws) does
    → ((before : _) → ShowsBefore ws before → P (plain.tagged (is_structure_kind b) p n w before)) → P does
does_tagged b p n w ws P (plain.tagged c q m t before) shows next = rw (← shows.0, ← shows.1, ← shows.2, ← shows.3) (next before shows.4)
does_tagged b p n w ws P _ shows next = absurd shows

pub does_suffixing : (m : _) (d : _) (P : plain.Doing → Type 0) (does : plain.Doing) → ShowsDoing (doing.Suffixing m d) does
    → ((e : _) → ShowsDeclared d e → P (plain.suffixing (manner_of m) e)) → P does
does_suffixing m d P (plain.suffixing n e) shows next = rw (← shows.0) (next e shows.1)
does_suffixing m d P _ shows next = absurd shows

pub does_sizing : (m : _) (d : _) (p : _) (P : plain.Doing → Type 0) (does : plain.Doing) → ShowsDoing (doing.Sizing m d p) does
    → ((e : _) → ShowsDeclared d e → P (plain.sizing (manner_of m) e p)) → P does
does_sizing m d p P (plain.sizing n e q) shows next = rw (← shows.0, ← shows.2) (next e shows.1)
does_sizing m d p P _ shows next = absurd shows

pub does_in_parameters : (m : _) (d : _) (p : _) (P : plain.Doing → Type 0) (does : plain.Doing) → ShowsDoing (doing.InParameters m d p) does
    → ((e : _) → ShowsDeclared d e → P (plain.parametering (manner_of m) e p)) → P does
does_in_parameters m d p P (plain.parametering n e q) shows next = rw (← shows.0, ← shows.2) (next e shows.1)
does_in_parameters m d p P _ shows next = absurd shows

pub does_testing : (p : _) (r : _) (a : _) (v : _) (P : plain.Doing → Type 0) (does : plain.Doing) → ShowsDoing (doing.Testing p r a v) does
    → ((e : _) → ShowsOptional a e → P (plain.testing p r e v)) → P does
does_testing p r a v P (plain.testing q u e w) shows next = rw (← shows.0, ← shows.1, ← shows.3) (next e shows.2)
does_testing p r a v P _ shows next = absurd shows

pub does_stepping : (l : Box Loop Global) (P : plain.Doing → Type 0) (does : plain.Doing) → ShowsDoing (doing.Stepping l) does
    → ((a : _) → ShowsLoop l.value a → P (plain.stepping a)) → P does
does_stepping l P (plain.stepping a) shows next = next a shows
does_stepping l P _ shows next = absurd shows
