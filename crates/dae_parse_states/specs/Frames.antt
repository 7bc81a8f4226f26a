-- What the machine's frames show of those of the grammar's machine.
use Rattle.std.specs.Prelude.{◌≡◌, ℕ, Bool, true, false, List, [], ◌∷◌, Option, Some, None, Box, length}
use Rattle.std.specs.declared.alloc.Global.{Global}
use Rattle.dae_tree.specs.Grammar as manners
use Rattle.dae_tree.specs.Depth.{first_too_long}
use Rattle.dae_tree.specs.Trees.{no_specifiers}
use Rattle.dae_parse_grammar.specs.Taken.{externals_before}
use Rattle.dae_tree.specs.Trees as tree
use Rattle.dae_parse_grammar.specs.Machine.{specifiers_onto, onto}
use Rattle.dae_parse_grammar.specs.Frames as plain
use Rattle.dae_parse_nodes.specs.Parts.{ShowsOperand, ShowsArguments, ShowsOptional, ShowsSpecified, ShowsMembers, ShowsEnumerators, ShowsDeclared, ShowsDeclarators, ShowsParameters, ShowsInitialiser, ShowsInitialisers, ShowsItems, ShowsDeclaration, ShowsDeclarations, ShowsStatement, ShowsStatements, ShowsLoop, ShowsExternals}
use Rattle.dae_parse_nodes.specs.declared.values.TypeBody.{TypeBody}
use Rattle.dae_parse_nodes.specs.declared.values.Specified.{Specified}
use Rattle.dae_parse_states.specs.declared.frames.Manner.{Manner}
use Rattle.dae_parse_states.specs.declared.frames.Manner.TheVariants as manner
use Rattle.dae_parse_states.specs.declared.frames.Presence.{Presence}
use Rattle.dae_parse_states.specs.declared.frames.Presence.TheVariants as presence
use Rattle.dae_parse_states.specs.declared.frames.TagKind.{TagKind}
use Rattle.dae_parse_states.specs.declared.frames.TagKind.TheVariants as tag_kind
use Rattle.dae_parse_states.specs.declared.frames.FunctionBody.{FunctionBody}
use Rattle.dae_parse_states.specs.declared.frames.FunctionBody.TheVariants as function_body
use Rattle.dae_parse_states.specs.declared.frames.StatementKind.{StatementKind}
use Rattle.dae_parse_states.specs.declared.frames.StatementKind.TheVariants as statement_kind
use Rattle.dae_parse_states.specs.declared.frames.OpenParameters.{OpenParameters}
use Rattle.dae_parse_states.specs.declared.frames.StatementHead.{StatementHead}
use Rattle.dae_parse_states.specs.declared.frames.StatementHead.TheVariants as head
use Rattle.dae_parse_states.specs.declared.frames.Inside.{Inside}
use Rattle.dae_parse_states.specs.declared.frames.FileSoFar.{FileSoFar}
use Rattle.dae_parse_states.specs.declared.frames.ExpressionFrame.{ExpressionFrame}
use Rattle.dae_parse_states.specs.declared.frames.ExpressionFrame.TheVariants as expression
use Rattle.dae_parse_states.specs.declared.frames.SpecifiersFrame.{SpecifiersFrame}
use Rattle.dae_parse_states.specs.declared.frames.SpecifiersFrame.TheVariants as specifiers
use Rattle.dae_parse_states.specs.declared.frames.DeclaratorFrame.{DeclaratorFrame}
use Rattle.dae_parse_states.specs.declared.frames.DeclaratorFrame.TheVariants as declarator
use Rattle.dae_parse_states.specs.declared.frames.InitialiserFrame.{InitialiserFrame}
use Rattle.dae_parse_states.specs.declared.frames.InitialiserFrame.TheVariants as initialiser
use Rattle.dae_parse_states.specs.declared.frames.DeclarationFrame.{DeclarationFrame}
use Rattle.dae_parse_states.specs.declared.frames.DeclarationFrame.TheVariants as declaration
use Rattle.dae_parse_states.specs.declared.frames.StatementFrame.{StatementFrame}
use Rattle.dae_parse_states.specs.declared.frames.StatementFrame.TheVariants as statement
use Rattle.dae_parse_states.specs.Kept.{Frame}
use Rattle.dae_parse_states.specs.Kept as frame
use Rattle.dae_parse_states.specs.declared.frames.Doing.{Doing}
use Rattle.dae_parse_states.specs.declared.frames.Doing.TheVariants as doing

abbrev pub manner_of : Manner → manners.Manner
manner_of manner.ByName = manners.by_name
manner_of manner.WithoutName = manners.without_name
manner_of manner.EitherWay = manners.either_way

-- what the grammar's machine says by truth values: that some part must stand there, that a tag is a structure's, and that a
-- declarator may begin a definition
abbrev pub is_required : Presence → Bool
is_required presence.Required = true
is_required presence.Optional = false

abbrev pub is_structure_kind : TagKind → Bool
is_structure_kind tag_kind.Structure = true
is_structure_kind tag_kind.Enumeration = false

abbrev pub is_allowed : FunctionBody → Bool
is_allowed function_body.Allowed = true
is_allowed function_body.Excluded = false

-- specifiers that were read, the last first
abbrev pub ShowsBefore : Specified → List tree.Specifier → Type 0
ShowsBefore s before = ShowsSpecified s (specifiers_onto before no_specifiers)

pub record ShowsBody (b : Box TypeBody Global) (a : plain.TypeBody) : Type 0 where
  pub place : b.value.place ≡ a.place
  pub tag : b.value.tag ≡ a.tag
  pub brace : b.value.brace ≡ a.brace
  pub seen : b.value.seen ≡ a.seen
  pub before : ShowsBefore b.value.before a.before

pub record ShowsOpen (o : OpenParameters) (a : plain.OpenParameters) : Type 0 where
  pub declared : ShowsDeclared o.declared a.declarator
  pub place : o.place ≡ a.place
  pub manner : manner_of o.manner ≡ a.manner

abbrev pub ShowsHead : StatementHead → plain.StatementHead → Type 0
ShowsHead (head.If p) (plain.if_head q) = p ≡ q
ShowsHead (head.While p) (plain.while_head q) = p ≡ q
ShowsHead (head.Switch p) (plain.switch_head q) = p ≡ q
ShowsHead (head.Do p b r) (plain.do_head q a u) = (p ≡ q) × ShowsStatement b a × (r ≡ u)
ShowsHead _ _ = ⊥

pub record ShowsInside (i : Inside) (a : plain.Inside) : Type 0 where
  pub place : i.place ≡ a.place
  pub declarations : ShowsDeclarations i.declarations a.declarations

pub record ShowsFile (b : FileSoFar) (before : List tree.External) : Type 0 where
  pub read : ShowsExternals b.read before
  pub taken : b.taken ≡ length (externals_before before [])
  pub too_long : b.too_long ≡ first_too_long (onto before [])

abbrev pub kind_of_statement : tree.Statement → StatementKind
kind_of_statement (tree.Block p ds ss) = statement_kind.Block
kind_of_statement _ = statement_kind.Other

abbrev pub ShowsExpressionFrame : ExpressionFrame → plain.ExpressionFrame → Type 0
ShowsExpressionFrame (expression.InParentheses p l) (plain.in_parentheses q k) = (p ≡ q) × (l ≡ k)
ShowsExpressionFrame (expression.InIndex a p l) (plain.in_index e q k) = ShowsOperand a e × (p ≡ q) × (l ≡ k)
ShowsExpressionFrame (expression.InArguments a p xs l) (plain.in_arguments e q es k) = ShowsOperand a e × (p ≡ q) × ShowsArguments xs es × (l ≡ k)
ShowsExpressionFrame (expression.BehindPrefix p o l) (plain.behind_prefix q u k) = (p ≡ q) × (o ≡ u) × (l ≡ k)
ShowsExpressionFrame (expression.BehindSizeof p l) (plain.behind_sizeof q k) = (p ≡ q) × (l ≡ k)
ShowsExpressionFrame (expression.BehindCast p s d l) (plain.behind_cast q ws e k) = (p ≡ q) × ShowsSpecified s ws × ShowsDeclared d e × (l ≡ k)
ShowsExpressionFrame (expression.BehindBinary a p o l) (plain.behind_binary e q u k) = ShowsOperand a e × (p ≡ q) × (o ≡ u) × (l ≡ k)
ShowsExpressionFrame (expression.BehindQuestion a p l) (plain.behind_question e q k) = ShowsOperand a e × (p ≡ q) × (l ≡ k)
ShowsExpressionFrame (expression.BehindColon a p b l) (plain.behind_colon e q f k) = ShowsOperand a e × (p ≡ q) × ShowsOperand b f × (l ≡ k)
ShowsExpressionFrame (expression.BehindAssignment a p o l) (plain.behind_assignment e q u k) = ShowsOperand a e × (p ≡ q) × (o ≡ u) × (l ≡ k)
ShowsExpressionFrame (expression.BehindComma a l) (plain.behind_comma e k) = ShowsOperand a e × (l ≡ k)
ShowsExpressionFrame (expression.InSize d p m) (plain.in_size e q n) = ShowsDeclared d e × (p ≡ q) × (manner_of m ≡ n)
ShowsExpressionFrame (expression.InEnumerator b xs n p) (plain.in_enumerator a es m q) = ShowsBody b a × ShowsEnumerators xs es × (n ≡ m) × (p ≡ q)
ShowsExpressionFrame expression.InValue plain.in_value = Unit {0}
ShowsExpressionFrame expression.InEvaluation plain.in_evaluation = Unit {0}
ShowsExpressionFrame (expression.InTest h p) (plain.in_test a q) = ShowsHead h a × (p ≡ q)
ShowsExpressionFrame (expression.InStart p r) (plain.in_start q u) = (p ≡ q) × (r ≡ u)
ShowsExpressionFrame (expression.InLoopTest p r a v) (plain.in_loop_test q u e w) = (p ≡ q) × (r ≡ u) × ShowsOptional a e × (v ≡ w)
ShowsExpressionFrame (expression.InStep l) (plain.in_step a) = ShowsLoop l.value a
ShowsExpressionFrame (expression.InReturn p) (plain.in_return q) = p ≡ q
ShowsExpressionFrame (expression.InCase p) (plain.in_case q) = p ≡ q
ShowsExpressionFrame _ _ = ⊥

abbrev pub ShowsSpecifiersFrame : SpecifiersFrame → plain.SpecifiersFrame → Type 0
ShowsSpecifiersFrame (specifiers.ForCast p l) (plain.for_cast q k) = (p ≡ q) × (l ≡ k)
ShowsSpecifiersFrame (specifiers.ForSizeof p r l) (plain.for_sizeof q u k) = (p ≡ q) × (r ≡ u) × (l ≡ k)
ShowsSpecifiersFrame (specifiers.ForParameter o ps) (plain.for_parameter a before) = ShowsOpen o a × ShowsParameters ps before
ShowsSpecifiersFrame (specifiers.ForMember b ms) (plain.for_member a before) = ShowsBody b a × ShowsMembers ms before
ShowsSpecifiersFrame (specifiers.ForDeclaration b) (plain.for_declaration c) = is_allowed b ≡ c
ShowsSpecifiersFrame _ _ = ⊥

abbrev pub ShowsDeclaratorFrame : DeclaratorFrame → plain.DeclaratorFrame → Type 0
ShowsDeclaratorFrame (declarator.BehindStar p qs) (plain.behind_star q us) = (p ≡ q) × (qs.items ≡ us)
ShowsDeclaratorFrame (declarator.InGroup p m) (plain.in_group q n) = (p ≡ q) × (manner_of m ≡ n)
ShowsDeclaratorFrame (declarator.OfCast p s l) (plain.of_cast q ws k) = (p ≡ q) × ShowsSpecified s ws × (l ≡ k)
ShowsDeclaratorFrame (declarator.OfSizeof p r s l) (plain.of_sizeof q u ws k) = (p ≡ q) × (r ≡ u) × ShowsSpecified s ws × (l ≡ k)
ShowsDeclaratorFrame (declarator.OfParameter o ps s) (plain.of_parameter a before ws) = ShowsOpen o a × ShowsParameters ps before × ShowsSpecified s ws
ShowsDeclaratorFrame (declarator.OfMember b ms s ds) (plain.of_member a lines ws before) = ShowsBody b a × ShowsMembers ms lines × ShowsSpecified s ws × ShowsDeclarators ds before
ShowsDeclaratorFrame (declarator.OfItem b s is) (plain.of_item c ws before) = (is_allowed b ≡ c) × ShowsSpecified s ws × ShowsItems is before
ShowsDeclaratorFrame _ _ = ⊥

abbrev pub ShowsInitialiserFrame : InitialiserFrame → plain.InitialiserFrame → Type 0
ShowsInitialiserFrame (initialiser.InList p xs) (plain.in_list q before) = (p ≡ q) × ShowsInitialisers xs before
ShowsInitialiserFrame (initialiser.OfValue s is d p) (plain.of_value ws before e q) = ShowsSpecified s ws × ShowsItems is before × ShowsDeclared d e × (p ≡ q)
ShowsInitialiserFrame _ _ = ⊥

abbrev pub ShowsDeclarationFrame : DeclarationFrame → plain.DeclarationFrame → Type 0
ShowsDeclarationFrame (declaration.InFile b) (plain.in_file before) = ShowsFile b before
ShowsDeclarationFrame (declaration.InBlock i) (plain.in_block a) = ShowsInside i a
ShowsDeclarationFrame _ _ = ⊥

abbrev pub ShowsStatementFrame : StatementFrame → plain.StatementFrame → Type 0
ShowsStatementFrame (statement.ThenBranch p r a) (plain.then_branch q u e) = (p ≡ q) × (r ≡ u) × ShowsOperand a e
ShowsStatementFrame (statement.ElseBranch p r a b) (plain.else_branch q u e c) = (p ≡ q) × (r ≡ u) × ShowsOperand a e × ShowsStatement b c
ShowsStatementFrame (statement.WhileBody p r a) (plain.while_body q u e) = (p ≡ q) × (r ≡ u) × ShowsOperand a e
ShowsStatementFrame (statement.SwitchBody p r a) (plain.switch_body q u e) = (p ≡ q) × (r ≡ u) × ShowsOperand a e
ShowsStatementFrame (statement.DoBody p) (plain.do_body q) = p ≡ q
ShowsStatementFrame (statement.ForBody l a) (plain.for_body k e) = ShowsLoop l.value k × ShowsOptional a e
ShowsStatementFrame (statement.CaseBody p a) (plain.case_body q e) = (p ≡ q) × ShowsOperand a e
ShowsStatementFrame (statement.DefaultBody p) (plain.default_body q) = p ≡ q
ShowsStatementFrame (statement.InStatements i ss) (plain.in_statements a before) = ShowsInside i a × ShowsStatements ss before
ShowsStatementFrame (statement.InDefinition s d) (plain.in_definition ws e outside) = ShowsSpecified s ws × ShowsDeclared d e
ShowsStatementFrame _ _ = ⊥

abbrev pub ShowsFrame : Frame → plain.Frame → Type 0
ShowsFrame (frame.Expression f) (plain.awaits_expression a) = ShowsExpressionFrame f a
ShowsFrame (frame.Specifiers f) (plain.awaits_specifiers a) = ShowsSpecifiersFrame f a
ShowsFrame (frame.Declarator f) (plain.awaits_declarator a) = ShowsDeclaratorFrame f a
ShowsFrame (frame.Initialiser f) (plain.awaits_initialiser a) = ShowsInitialiserFrame f a
ShowsFrame (frame.Declaration f) (plain.awaits_declaration a) = ShowsDeclarationFrame f a
ShowsFrame (frame.Statement f) (plain.awaits_statement a) = ShowsStatementFrame f a
ShowsFrame _ _ = ⊥

-- the top first
abbrev pub ShowsStack : List Frame → List plain.Frame → Type 0
ShowsStack [] [] = Unit {0}
ShowsStack (f ∷ fs) (a ∷ s) = ShowsFrame f a × ShowsStack fs s
ShowsStack _ _ = ⊥

abbrev pub ShowsDoing : Doing → plain.Doing → Type 0
ShowsDoing (doing.Seek l) (plain.seek k) = l ≡ k
ShowsDoing (doing.Operated a l) (plain.operated e k) = ShowsOperand a e × (l ≡ k)
ShowsDoing (doing.Gave a) (plain.gave e) = ShowsOperand a e
ShowsDoing (doing.Calling a p l) (plain.calling e q k) = ShowsOperand a e × (p ≡ q) × (l ≡ k)
ShowsDoing (doing.Measuring p l) (plain.measuring q k) = (p ≡ q) × (l ≡ k)
ShowsDoing (doing.Specifying s ws) (plain.specifying t before) = (s ≡ t) × ShowsBefore ws before
ShowsDoing (doing.Tagging k p s ws) (plain.tagging c q t before) = (is_structure_kind k ≡ c) × (p ≡ q) × (s ≡ t) × ShowsBefore ws before
ShowsDoing (doing.Tagged k p n s ws) (plain.tagged c q m t before) = (is_structure_kind k ≡ c) × (p ≡ q) × (n ≡ m) × (s ≡ t) × ShowsBefore ws before
ShowsDoing (doing.InMembers b ms) (plain.membering a lines) = ShowsBody b a × ShowsMembers ms lines
ShowsDoing (doing.Enumerating b xs) (plain.enumerating a es) = ShowsBody b a × ShowsEnumerators xs es
ShowsDoing (doing.Enumerated b xs n) (plain.enumerated a es m) = ShowsBody b a × ShowsEnumerators xs es × (n ≡ m)
ShowsDoing (doing.Entered b xs) (plain.entered a es e) = ShowsBody b a × ShowsEnumerators xs (e ∷ es)
ShowsDoing (doing.Entering b xs) (plain.entering a es e) = ShowsBody b a × ShowsEnumerators xs (e ∷ es)
ShowsDoing (doing.GaveSpecifiers s) (plain.gave_specifiers ws) = ShowsSpecified s ws
ShowsDoing (doing.Declaring m b) (plain.declaring n c) = (manner_of m ≡ n) × (is_required b ≡ c)
ShowsDoing (doing.Qualifying m p qs) (plain.qualifying n q before) = (manner_of m ≡ n) × (p ≡ q) × (qs.items ≡ onto before [])
ShowsDoing (doing.Suffixing m d) (plain.suffixing n e) = (manner_of m ≡ n) × ShowsDeclared d e
ShowsDoing (doing.Sizing m d p) (plain.sizing n e q) = (manner_of m ≡ n) × ShowsDeclared d e × (p ≡ q)
ShowsDoing (doing.InParameters m d p) (plain.parametering n e q) = (manner_of m ≡ n) × ShowsDeclared d e × (p ≡ q)
ShowsDoing (doing.GaveDeclarator d) (plain.gave_declarator e) = ShowsDeclared d e
ShowsDoing doing.Initialising plain.initialising = Unit {0}
ShowsDoing (doing.Listing p xs) (plain.listing q x before) = (p ≡ q) × ShowsInitialisers xs (x ∷ before)
ShowsDoing (doing.GaveInitialiser r) (plain.gave_initialiser x) = ShowsInitialiser r x
ShowsDoing (doing.AfterItem s is) (plain.itemed ws i before) = ShowsSpecified s ws × ShowsItems is (i ∷ before)
ShowsDoing (doing.GaveDeclaration r) (plain.gave_declaration d) = ShowsDeclaration r d
ShowsDoing (doing.Externals b) (plain.externals before) = ShowsFile b before
ShowsDoing (doing.Declarations i) (plain.declarations a) = ShowsInside i a
ShowsDoing (doing.Statements i ss) (plain.statements a before) = ShowsInside i a × ShowsStatements ss before
ShowsDoing doing.AtStatement plain.stating = Unit {0}
ShowsDoing (doing.Opening h) (plain.opening a) = ShowsHead h a
ShowsDoing (doing.Finishing d) (plain.finishing q c u w e) = (d.place ≡ q) × ShowsStatement d.body c × (d.word ≡ u) × (d.paren ≡ w) × ShowsOperand d.test e
ShowsDoing (doing.Looping p) (plain.looping q) = p ≡ q
ShowsDoing (doing.Starting p r) (plain.starting q u) = (p ≡ q) × (r ≡ u)
ShowsDoing (doing.Testing p r a v) (plain.testing q u e w) = (p ≡ q) × (r ≡ u) × ShowsOptional a e × (v ≡ w)
ShowsDoing (doing.Stepping l) (plain.stepping a) = ShowsLoop l.value a
ShowsDoing (doing.Returning p) (plain.returning q) = p ≡ q
ShowsDoing (doing.Breaking p) (plain.breaking q) = p ≡ q
ShowsDoing (doing.Continuing p) (plain.continuing q) = p ≡ q
ShowsDoing (doing.Defaulting p) (plain.defaulting q) = p ≡ q
ShowsDoing (doing.GaveStatement r k) (plain.gave_statement b) = ShowsStatement r b × (k ≡ kind_of_statement b)
ShowsDoing _ _ = ⊥
