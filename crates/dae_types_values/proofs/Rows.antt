-- A call in memory, whose arguments are a list; and the rules that are asked at a call.
use Rattle.std.proofs.Common.{◌≡◌, ℕ, List, [], ◌∷◌, Bool, true, false, Option, Some, None, Result, Ok, Err, refl, ap, sym, subst, ◌∙◌}
use Rattle.std.specs.Prelude.{Vec, map, nat_eq, not, length, slice_get}
use Rattle.std.specs.declared.alloc.Global.{Global}
use Rattle.dae_base.specs.declared.Place.{Place}
use Rattle.dae_program.specs.declared.expressions.Expression.{Expression}
use Rattle.dae_program.specs.declared.expressions.Expression.TheVariants as expression
use Rattle.dae_program.specs.declared.expressions.Expression.TheBlock.{Row_of-Expression, end_of-Expression, more_of-Expression, items-the_row-Expression, items_hidden-the_row-Expression-0}
use Rattle.dae_program.specs.Trees as program
use Rattle.dae_program.specs.Views.{view, view_row}
use Rattle.dae_types_kinds.specs.declared.rules.Breach.{Breach}
use Rattle.dae_types_kinds.specs.declared.rules.CheckError.{CheckError}
use Rattle.dae_types_kinds.specs.declared.rules.CheckError.TheVariants as errors
use Rattle.dae_types_kinds.specs.declared.rules.Rule.TheVariants as rule
use Rattle.dae_types_kinds.specs.declared.tables.LibraryFunction.{LibraryFunction}
use Rattle.dae_types_kinds.specs.declared.tables.LibraryFunction.TheVariants as library
use Rattle.dae_types_kinds.specs.Tables.{Tables}
use Rattle.dae_types_kinds.specs.Values.{library_of, listed}
use Rattle.dae_types_rules.specs.Plan.{Fails, Gives, ask_all, check_of}
use Rattle.dae_types_rules.specs.Sites.{AtCall}
use Rattle.dae_types_kinds.specs.Values.{is_printf}
use Rattle.dae_types_plans.specs.Steps.{call_at, is_main, parameter_types, with_call}
use Rattle.dae_types_values.specs.Results.{views}
use Rattle.dae_tree.specs.declared.expressions.Name.{Name}

row_listed : (n : _) (row : Row_of-Expression n) → view_row row ≡ listed (map view (items-the_row-Expression n row))
row_listed n end_of-Expression = refl
row_listed n (more_of-Expression e rest) = ap (program.expression_then (view e)) (row_listed _ rest)

abbrev arguments_of : Expression → (n : _) × Row_of-Expression n
arguments_of (expression.Call' _ _ _ row) = (_, row)
arguments_of _ = (_, end_of-Expression)

pub view_call : (p : Place) (f : ℕ) (list : Vec Expression Global) → view (expression.Call p f list) ≡ program.Call p f (listed (views list))
view_call p f list =
    let row = arguments_of (expression.Call p f list) in
    ap (program.Call p f) (row_listed row.0 row.1 ∙ ap (λ es. listed (map view es)) (items_hidden-the_row-Expression-0 list))

-- ---- the rules at a call, in their order

abbrev asked_call : {A : Type 0} → Place → (printf main differs : Bool) → Result A Breach → Result A Breach
asked_call p printf main differs after =
    elim printf [
      | true ↦ Err (record { rule = rule.PrintfPlace; place = p })
      | false ↦ elim main [
        | true ↦ Err (record { rule = rule.MainCalled; place = p })
        | false ↦ elim differs [ true ↦ Err (record { rule = rule.ArgumentCount; place = p }) | false ↦ after ]
      ]
    ]

printf_first : {A : Type 0} (p : Place) (printf main differs : Bool) (after : Result A Breach) → printf ≡ true → asked_call p printf main differs after ≡ Err (record { rule = rule.PrintfPlace; place = p })
printf_first p true main differs after h = refl
printf_first p false main differs after h = absurd cc

main_next : {A : Type 0} (p : Place) (printf main differs : Bool) (after : Result A Breach) → printf ≡ false → main ≡ true → asked_call p printf main differs after ≡ Err (record { rule = rule.MainCalled; place = p })
main_next p true main differs after h d = absurd cc
main_next p false true differs after h d = refl
main_next p false false differs after h d = absurd cc

count_last : {A : Type 0} (p : Place) (printf main differs : Bool) (after : Result A Breach) → printf ≡ false → main ≡ false → differs ≡ true → asked_call p printf main differs after ≡ Err (record { rule = rule.ArgumentCount; place = p })
count_last p true main differs after h d k = absurd cc
count_last p false true differs after h d k = absurd cc
count_last p false false true after h d k = refl
count_last p false false false after h d k = absurd cc

none_broken : {A : Type 0} (p : Place) (printf main differs : Bool) (after : Result A Breach) → printf ≡ false → main ≡ false → differs ≡ false → asked_call p printf main differs after ≡ after
none_broken p true main differs after h d k = absurd cc
none_broken p false true differs after h d k = absurd cc
none_broken p false false true after h d k = absurd cc
none_broken p false false false after h d k = refl

asked_is : {A : Type 0} (p : Place) (main : Bool) (l : Option LibraryFunction) (given wanted : ℕ) (after : Result A Breach) → ask_all (AtCall p main l given wanted ∷ []) after ≡ asked_call p (is_printf l) main (not (nat_eq given wanted)) after
unfolding ask_all
asked_is p main None given wanted after = refl
asked_is p main (Some library.Printf) given wanted after = refl
asked_is p main (Some library.Putchar) given wanted after = refl
asked_is p main (Some library.Exit) given wanted after = refl
asked_is p main (Some library.Abort) given wanted after = refl

fails : {A : Type 0} (e : CheckError) (b : Breach) (r : Result A Breach) → e ≡ errors.Rule b → r ≡ Err b → Fails e r
fails e b r q h = subst (λ (k : CheckError). Fails k r) (sym q) h

pub printf_fails : {A : Type 0} (p : Place) (main : Bool) (l : Option LibraryFunction) (given wanted : ℕ) (after : Result A Breach) (e : CheckError) → e ≡ errors.Rule (record { rule = rule.PrintfPlace; place = p }) → is_printf l ≡ true → Fails e (ask_all (AtCall p main l given wanted ∷ []) after)
printf_fails p main l given wanted after e q h =
    fails e (record { rule = rule.PrintfPlace; place = p }) (ask_all (AtCall p main l given wanted ∷ []) after) q (asked_is p main l given wanted after ∙ printf_first p (is_printf l) main (not (nat_eq given wanted)) after h)

pub main_fails : {A : Type 0} (p : Place) (main : Bool) (l : Option LibraryFunction) (given wanted : ℕ) (after : Result A Breach) (e : CheckError) → e ≡ errors.Rule (record { rule = rule.MainCalled; place = p }) → is_printf l ≡ false → main ≡ true → Fails e (ask_all (AtCall p main l given wanted ∷ []) after)
main_fails p main l given wanted after e q h d =
    fails e (record { rule = rule.MainCalled; place = p }) (ask_all (AtCall p main l given wanted ∷ []) after) q (asked_is p main l given wanted after ∙ main_next p (is_printf l) main (not (nat_eq given wanted)) after h d)

pub count_fails : {A : Type 0} (p : Place) (main : Bool) (l : Option LibraryFunction) (given wanted : ℕ) (after : Result A Breach) (e : CheckError) → e ≡ errors.Rule (record { rule = rule.ArgumentCount; place = p }) → is_printf l ≡ false → main ≡ false → not (nat_eq given wanted) ≡ true → Fails e (ask_all (AtCall p main l given wanted ∷ []) after)
count_fails p main l given wanted after e q h d k =
    fails e (record { rule = rule.ArgumentCount; place = p }) (ask_all (AtCall p main l given wanted ∷ []) after) q (asked_is p main l given wanted after ∙ count_last p (is_printf l) main (not (nat_eq given wanted)) after h d k)

call_passes : {A : Type 0} (p : Place) (main : Bool) (l : Option LibraryFunction) (given wanted : ℕ) (after : Result A Breach) → is_printf l ≡ false → main ≡ false → not (nat_eq given wanted) ≡ false → ask_all (AtCall p main l given wanted ∷ []) after ≡ after
call_passes p main l given wanted after h d k = asked_is p main l given wanted after ∙ none_broken p (is_printf l) main (not (nat_eq given wanted)) after h d k

ok_is : {A : Type 0} (x y : A) → ◌≡◌ {A = Result A Breach} (Ok x) (Ok y) → x ≡ y
ok_is {A} x y h = ap (λ (r : Result A Breach). elim r [ Ok z ↦ z | Err f ↦ x ]) h

pub differs_as : (x y b : Bool) → ◌≡◌ {A = Result Bool Breach} (Ok x) (Ok y) → y ≡ b → x ≡ b
differs_as x y b h k = ok_is x y h ∙ k

-- a call that breaks no rule, and what is noted
pub call_goes_on : {X : Type 0} (new s t : Tables) (r : Result X CheckError) (p : Place) (n : Name) (f given : ℕ) → is_printf (library_of (slice_get s.routines f)) ≡ false → is_main s n.number ≡ false → not (nat_eq given (length (parameter_types s f))) ≡ false → with_call f n.place (library_of (slice_get s.routines f)) s ≡ t → Gives (λ _. new) r (Ok t) → Gives (λ _. (new, tt {0})) r (check_of (call_at p n f given) s)
call_goes_on new s t (Ok x) p n f given h d k e g =
    call_passes p (is_main s n.number) (library_of (slice_get s.routines f)) given (length (parameter_types s f)) (Ok (with_call f n.place (library_of (slice_get s.routines f)) s, tt {0})) h d k ∙ ap (λ (u : Tables). Ok (u, tt {0})) (e ∙ ok_is t new g)
call_goes_on new s t (Err errors.Memory) p n f given h d k e g = tt
call_goes_on new s t (Err errors.Unsound) p n f given h d k e g = tt
call_goes_on new s t (Err (errors.Rule b)) p n f given h d k e g = absurd cc

-- whether a name is main, where a name is
pub main_is : (s : Tables) (name n : ℕ) → s.main ≡ Some n → nat_eq n name ≡ is_main s name
main_is s name n h = rw h refl
