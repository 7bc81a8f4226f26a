-- A rule that is broken at a site is among those that are asked there.
use Rattle.std.proofs.Common.{◌≡◌, List, [], ◌∷◌, Bool, true, false, if◌then◌else◌, ◌⊎◌, inl, inr, refl, sym, ap, ◌∙◌}
use Rattle.dae_types_kinds.specs.declared.rules.Rule.{Rule}
use Rattle.dae_types_kinds.specs.declared.rules.Rule.TheVariants as rule
use Rattle.dae_types_rules.specs.Sites.{Site, AtWord, AtTypeName, AtTag, AtBody, AtEnumeration, AtEnumerationBody, AtEnumerator, AtConstant, AtComponent, AtEnd, AtPointer, AtCount, AtElement, AtResult, AtParameter, AtName, AtValue, AtInteger, AtScalar, AtOperands, AtSized, AtSizeof, AtCast, AtAddress, AtStar, AtIndex, AtMember, AtTarget, AtAssign, AtUpdate, AtBranches, AtCall, AtCalled, AtArgument, AtReturn, AtBreak, AtCase, AtDefault, AtCaseOutside, AtSwitchBody, AtFormat, AtPrinted, AtTypedef, AtLocal, AtFunction, AtObject, AtEndOfFile, AtDefinition, AtSecond, AtUnnamed, AtItem, AtScalarList, AtAggregate, AtString, AtTooMany, AtFilled}
use Rattle.dae_types_rules.specs.Table.{IsAmong, breaks, asked, any_broken}

any_by : (b : Bool) (rest : Bool) → (b ≡ true) ⊎ (rest ≡ true) → (if b then true else rest) ≡ true
any_by true rest h = refl
any_by false rest (inl h) = absurd cc
any_by false rest (inr h) = h

pub any_among : (rs : List Rule) (r : Rule) (s : Site) → breaks r s ≡ true → IsAmong r rs → any_broken rs s ≡ true
any_among [] r s e h = absurd h
any_among (x ∷ xs) r s e (inl h) = any_by (breaks x s) (any_broken xs s) (inl (ap (λ q. breaks q s) (sym h) ∙ e))
any_among (x ∷ xs) r s e (inr h) = any_by (breaks x s) (any_broken xs s) (inr (any_among xs r s e h))

pub is_asked : (r : Rule) (s : Site) → breaks r s ≡ true → IsAmong r (asked s)
is_asked rule.StorageClass (AtWord p c k) e = inl refl
is_asked rule.BlockStorage (AtWord p c k) e = inr (inl refl)
is_asked rule.TypedefMisuse (AtWord p c k) e = inr (inr (inl refl))
is_asked rule.Undeclared (AtTypeName p found) e = inl refl
is_asked rule.TagKind (AtTag p found) e = inl refl
is_asked rule.TagKind (AtBody p s found) e = inl refl
is_asked rule.Redefined (AtBody p s found) e = inr (inl refl)
is_asked rule.TagKind (AtEnumeration p found) e = inl refl
is_asked rule.Incomplete (AtEnumeration p found) e = inr (inl refl)
is_asked rule.Undeclared (AtEnumeration p found) e = inr (inr (inl refl))
is_asked rule.TagKind (AtEnumerationBody p s found) e = inl refl
is_asked rule.Redefined (AtEnumerationBody p s found) e = inr (inl refl)
is_asked rule.Redeclared (AtEnumerator p taken) e = inl refl
is_asked rule.NotInteger (AtConstant p s x) e = inl refl
is_asked rule.ConstantDivision (AtConstant p s x) e = inr (inl refl)
is_asked rule.NotConstant (AtConstant p s x) e = inr (inr (inl refl))
is_asked rule.VoidObject (AtComponent p taken s t) e = inl refl
is_asked rule.BadFunctionType (AtComponent p taken s t) e = inr (inl refl)
is_asked rule.Incomplete (AtComponent p taken s t) e = inr (inr (inl refl))
is_asked rule.Redeclared (AtComponent p taken s t) e = inr (inr (inr (inl refl)))
is_asked rule.ObjectTooLarge (AtEnd p l) e = inl refl
is_asked rule.FunctionPointer (AtPointer p t) e = inl refl
is_asked rule.NotInteger (AtCount p s x) e = inl refl
is_asked rule.ConstantDivision (AtCount p s x) e = inr (inl refl)
is_asked rule.BadSize (AtCount p s x) e = inr (inr (inl refl))
is_asked rule.BadFunctionType (AtElement p s t count) e = inl refl
is_asked rule.Incomplete (AtElement p s t count) e = inr (inl refl)
is_asked rule.ObjectTooLarge (AtElement p s t count) e = inr (inr (inl refl))
is_asked rule.BadFunctionType (AtResult p t) e = inl refl
is_asked rule.StructureValue (AtResult p t) e = inr (inl refl)
is_asked rule.FunctionPointer (AtParameter p taken t) e = inl refl
is_asked rule.VoidObject (AtParameter p taken t) e = inr (inl refl)
is_asked rule.Incomplete (AtParameter p taken t) e = inr (inr (inl refl))
is_asked rule.StructureValue (AtParameter p taken t) e = inr (inr (inr (inl refl)))
is_asked rule.Redeclared (AtParameter p taken t) e = inr (inr (inr (inr (inl refl))))
is_asked rule.Undeclared (AtName p found) e = inl refl
is_asked rule.FunctionValue (AtName p found) e = inr (inl refl)
is_asked rule.TypedefMisuse (AtName p found) e = inr (inr (inl refl))
is_asked rule.Incomplete (AtValue p s x) e = inl refl
is_asked rule.NotInteger (AtInteger p t) e = inl refl
is_asked rule.NotScalar (AtScalar p t) e = inl refl
is_asked rule.BadOperands (AtOperands p c) e = inl refl
is_asked rule.Incomplete (AtSized p s t) e = inl refl
is_asked rule.Incomplete (AtSizeof p s t) e = inl refl
is_asked rule.BadCast (AtCast p t u) e = inl refl
is_asked rule.NotLvalue (AtAddress p c) e = inl refl
is_asked rule.BadDeref (AtStar p s t) e = inl refl
is_asked rule.BadIndex (AtIndex p t u) e = inl refl
is_asked rule.NotStructure (AtMember p s n name) e = inl refl
is_asked rule.Incomplete (AtMember p s n name) e = inr (inl refl)
is_asked rule.BadMember (AtMember p s n name) e = inr (inr (inl refl))
is_asked rule.NotLvalue (AtTarget p t c) e = inl refl
is_asked rule.NotModifiable (AtTarget p t c) e = inr (inl refl)
is_asked rule.BadAssign (AtAssign p s x t) e = inl refl
is_asked rule.StructureValue (AtAssign p s x t) e = inr (inl refl)
is_asked rule.BadOperands (AtUpdate p c) e = inl refl
is_asked rule.BadOperands (AtBranches p t) e = inl refl
is_asked rule.PrintfPlace (AtCall p is_main f given wanted) e = inl refl
is_asked rule.MainCalled (AtCall p is_main f given wanted) e = inr (inl refl)
is_asked rule.ArgumentCount (AtCall p is_main f given wanted) e = inr (inr (inl refl))
is_asked rule.BadCall (AtCalled p) e = inl refl
is_asked rule.BadArgument (AtArgument p s x t) e = inl refl
is_asked rule.StructureValue (AtArgument p s x t) e = inr (inl refl)
is_asked rule.BadReturn (AtReturn p s t x) e = inl refl
is_asked rule.StructureValue (AtReturn p s t x) e = inr (inl refl)
is_asked rule.LoopOutside (AtBreak p inside) e = inl refl
is_asked rule.CaseDuplicate (AtCase p taken) e = inl refl
is_asked rule.DefaultTwice (AtDefault p taken) e = inl refl
is_asked rule.CaseOutside (AtCaseOutside p) e = inl refl
is_asked rule.SwitchBody (AtSwitchBody p) e = inl refl
is_asked rule.BadFormat (AtFormat p wanted given) e = inl refl
is_asked rule.BadFormat (AtPrinted p s text x) e = inl refl
is_asked rule.TypedefMisuse (AtTypedef p block given found s t) e = inl refl
is_asked rule.Redeclared (AtTypedef p block given found s t) e = inr (inl refl)
is_asked rule.BlockFunction (AtLocal p taken given s t) e = inl refl
is_asked rule.BadInitialiser (AtLocal p taken given s t) e = inr (inl refl)
is_asked rule.VoidObject (AtLocal p taken given s t) e = inr (inr (inl refl))
is_asked rule.Incomplete (AtLocal p taken given s t) e = inr (inr (inr (inl refl)))
is_asked rule.Redeclared (AtLocal p taken given s t) e = inr (inr (inr (inr (inl refl))))
is_asked rule.BadMain (AtFunction p is_main own given found s t) e = inl refl
is_asked rule.Redeclared (AtFunction p is_main own given found s t) e = inr (inl refl)
is_asked rule.BadInitialiser (AtFunction p is_main own given found s t) e = inr (inr (inl refl))
is_asked rule.VoidObject (AtObject p k given found s t) e = inl refl
is_asked rule.Redeclared (AtObject p k given found s t) e = inr (inl refl)
is_asked rule.Redefined (AtObject p k given found s t) e = inr (inr (inl refl))
is_asked rule.Incomplete (AtObject p k given found s t) e = inr (inr (inr (inl refl)))
is_asked rule.Incomplete (AtEndOfFile p s t) e = inl refl
is_asked rule.TypedefMisuse (AtDefinition p is_typedef is_direct t) e = inl refl
is_asked rule.BadFunctionType (AtDefinition p is_typedef is_direct t) e = inr (inl refl)
is_asked rule.Redefined (AtSecond p f) e = inl refl
is_asked rule.ParameterName (AtUnnamed p) e = inl refl
is_asked rule.BadAssign (AtItem p s x t) e = inl refl
is_asked rule.StructureValue (AtItem p s x t) e = inr (inl refl)
is_asked rule.ConstantDivision (AtItem p s x t) e = inr (inr (inl refl))
is_asked rule.NotConstant (AtItem p s x t) e = inr (inr (inr (inl refl)))
is_asked rule.BadInitialiser (AtScalarList p) e = inl refl
is_asked rule.StructureValue (AtAggregate p s x t) e = inl refl
is_asked rule.BadInitialiser (AtAggregate p s x t) e = inr (inl refl)
is_asked rule.TooManyInitialisers (AtString p n count) e = inl refl
is_asked rule.TooManyInitialisers (AtTooMany p) e = inl refl
is_asked rule.ObjectTooLarge (AtFilled p s t) e = inl refl
is_asked _ _ e = absurd cc
