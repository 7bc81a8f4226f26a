-- Lists of products, of what objects hold and of functions, one item longer.
use Rattle.std.proofs.Common.{◌≡◌, ℕ, List, [], ◌∷◌, ◌++◌, Result, Ok, Err, refl, ap, sym, subst, ◌∙◌, append-nil}
use Rattle.dae_program.specs.declared.statements.Setting.{Setting}
use Rattle.dae_program.specs.Views.{view_settings}
use Rattle.dae_base.specs.declared.Place.{Place}
use Rattle.dae_types_kinds.specs.declared.rules.Breach.{Breach}
use Rattle.dae_types_kinds.specs.Tables.{Tables}
use Rattle.dae_types_file_plans.specs.Files.{Product, Declares, Data, Body}
use Rattle.dae_types_file_plans.specs.declared.declarations.FileDeclaration.{FileDeclaration}
use Rattle.dae_types_typed.specs.declared.files.Datum.{Datum}
use Rattle.dae_types_typed.specs.declared.files.TypedFunction.{TypedFunction}
use Rattle.dae_types_typed.specs.Reading.{WrittenFunction, contents_in, declarations_in, places_in, view_data, view_functions, written_in}
use Rattle.dae_types_products.specs.declared.products.Product.{Product as ProductInMemory}
use Rattle.dae_types_products.specs.declared.products.Product.TheVariants as product
use Rattle.dae_types_products.specs.declared.products.Body.{Body as BodyInMemory}
use Rattle.dae_types_products.specs.Products.{view_product, view_products}
use Rattle.dae_types_products.specs.declared.sorting.Sorted.{Sorted}
use Rattle.dae_types_products.specs.Functions.{IsSorted, view_function, view_placed, written_all, written_by, written_of}

pub products_append : (xs ys : List ProductInMemory) → view_products (xs ++ ys) ≡ view_products xs ++ view_products ys
products_append [] ys = refl
products_append (x ∷ xs) ys = ap (λ zs. view_product x ∷ zs) (products_append xs ys)

-- ---- products apart

pub declarations_append : (xs ys : List Product) → declarations_in (xs ++ ys) ≡ declarations_in xs ++ declarations_in ys
declarations_append [] ys = refl
declarations_append (Declares d ∷ xs) ys = ap (λ ds. d ∷ ds) (declarations_append xs ys)
declarations_append (Data o items ∷ xs) ys = declarations_append xs ys
declarations_append (Body f locals storages body ∷ xs) ys = declarations_append xs ys

pub contents_append : (xs ys : List Product) → contents_in (xs ++ ys) ≡ contents_in xs ++ contents_in ys
contents_append [] ys = refl
contents_append (Declares d ∷ xs) ys = contents_append xs ys
contents_append (Data o items ∷ xs) ys = ap (λ cs. record { object = o; settings = items } ∷ cs) (contents_append xs ys)
contents_append (Body f locals storages body ∷ xs) ys = contents_append xs ys

pub written_append : (s : Tables) (spellings : List (List ℕ)) (xs ys : List Product) → written_in s spellings (xs ++ ys) ≡ written_in s spellings xs ++ written_in s spellings ys
written_append s spellings [] ys = refl
written_append s spellings (Declares d ∷ xs) ys = written_append s spellings xs ys
written_append s spellings (Data o items ∷ xs) ys = written_append s spellings xs ys
written_append s spellings (Body f locals storages body ∷ xs) ys = ap (λ fs. written_by s spellings f locals storages body ∷ fs) (written_append s spellings xs ys)

pub data_append : (xs ys : List Datum) → view_data (xs ++ ys) ≡ view_data xs ++ view_data ys
data_append [] ys = refl
data_append (d ∷ xs) ys = ap (λ ds. record { object = d.object; settings = view_settings d.settings } ∷ ds) (data_append xs ys)

pub all_append : (s : Tables) (spellings : List (List ℕ)) (xs ys : List BodyInMemory) → written_all s spellings (xs ++ ys) ≡ written_all s spellings xs ++ written_all s spellings ys
all_append s spellings [] ys = refl
all_append s spellings (b ∷ xs) ys = ap (λ fs. written_of s spellings b ∷ fs) (all_append s spellings xs ys)

pub functions_append : (xs ys : List TypedFunction) → view_functions (xs ++ ys) ≡ view_functions xs ++ view_functions ys
functions_append [] ys = refl
functions_append (f ∷ xs) ys = ap (λ fs. view_function f ∷ fs) (functions_append xs ys)

pub places_append : (xs ys : List TypedFunction) → places_in (xs ++ ys) ≡ places_in xs ++ places_in ys
places_append [] ys = refl
places_append (f ∷ xs) ys = ap (λ ps. f.place ∷ ps) (places_append xs ys)

-- ---- sorted, with one product more

pub sorted_declaration : (products : List Product) (x y : Sorted) (d : FileDeclaration) → IsSorted products x → y.declarations.items ≡ x.declarations.items ++ d ∷ [] → y.contents.items ≡ x.contents.items → y.bodies.items ≡ x.bodies.items → IsSorted (products ++ Declares d ∷ []) y
sorted_declaration products x y d is a b c =
    record {
      declarations = a ∙ ap (λ ds. ds ++ d ∷ []) is.declarations ∙ sym (declarations_append products (Declares d ∷ []));
      contents = ap view_data b ∙ is.contents ∙ sym (append-nil (contents_in products)) ∙ sym (contents_append products (Declares d ∷ []));
      bodies = λ s spellings. ap (written_all s spellings) c ∙ is.bodies s spellings ∙ sym (append-nil (written_in s spellings products)) ∙ sym (written_append s spellings products (Declares d ∷ []));
    }

pub sorted_content : (products : List Product) (x y : Sorted) (d : Datum) → IsSorted products x → y.declarations.items ≡ x.declarations.items → y.contents.items ≡ x.contents.items ++ d ∷ [] → y.bodies.items ≡ x.bodies.items → IsSorted (products ++ Data d.object (view_settings d.settings) ∷ []) y
sorted_content products x y d is a b c =
    let z = Data d.object (view_settings d.settings) in
    record {
      declarations = a ∙ is.declarations ∙ sym (append-nil (declarations_in products)) ∙ sym (declarations_append products (z ∷ []));
      contents = ap view_data b ∙ data_append x.contents.items (d ∷ []) ∙ ap (λ cs. cs ++ view_data (d ∷ [])) is.contents ∙ sym (contents_append products (z ∷ []));
      bodies = λ s spellings. ap (written_all s spellings) c ∙ is.bodies s spellings ∙ sym (append-nil (written_in s spellings products)) ∙ sym (written_append s spellings products (z ∷ []));
    }

pub sorted_body : (products : List Product) (x y : Sorted) (b : BodyInMemory) → IsSorted products x → y.declarations.items ≡ x.declarations.items → y.contents.items ≡ x.contents.items → y.bodies.items ≡ x.bodies.items ++ b ∷ [] → IsSorted (products ++ view_product (product.Body b) ∷ []) y
sorted_body products x y b is e f g =
    let z = view_product (product.Body b) in
    record {
      declarations = e ∙ is.declarations ∙ sym (append-nil (declarations_in products)) ∙ sym (declarations_append products (z ∷ []));
      contents = ap view_data f ∙ is.contents ∙ sym (append-nil (contents_in products)) ∙ sym (contents_append products (z ∷ []));
      bodies = λ s spellings. ap (written_all s spellings) g ∙ all_append s spellings x.bodies.items (b ∷ []) ∙ ap (λ fs. fs ++ written_all s spellings (b ∷ [])) (is.bodies s spellings) ∙ sym (written_append s spellings products (z ∷ []));
    }

-- products in memory, one more
pub sorted_further : (xs ys : List ProductInMemory) (x : ProductInMemory) (y : Sorted) → ys ≡ xs ++ x ∷ [] → IsSorted (view_products xs ++ view_product x ∷ []) y → IsSorted (view_products ys) y
sorted_further xs ys x y is h = subst (λ (zs : List Product). IsSorted zs y) (sym (products_append xs (x ∷ [])) ∙ ap view_products (sym is)) h

-- ---- typed functions, with one more

abbrev given : {A : Type 0} → A → Result A Breach → A
given d (Ok x) = x
given d (Err f) = d

pub functions_further : (s : Tables) (spellings : List (List ℕ)) (fs new : List TypedFunction) (f : TypedFunction) (bs : List BodyInMemory) (b : BodyInMemory) (p : Place) → new ≡ fs ++ f ∷ [] → ◌≡◌ {A = Result (WrittenFunction × Place) Breach} (Ok (written_of s spellings b, p)) (Ok (view_placed f)) → view_functions fs ≡ written_all s spellings bs → view_functions new ≡ written_all s spellings (bs ++ b ∷ [])
functions_further s spellings fs new f bs b p is made h =
    let x : written_of s spellings b ≡ view_function f = ap (λ r. let z = given (view_placed f) r in z.0) made in
    ap view_functions is ∙ functions_append fs (f ∷ []) ∙ ap (λ gs. gs ++ view_functions (f ∷ [])) h ∙ ap (λ w. written_all s spellings bs ++ w ∷ []) (sym x) ∙ sym (all_append s spellings bs (b ∷ []))

places_moved : (xs : List Place) (p : Place) (ys : List Place) → (xs ++ p ∷ []) ++ ys ≡ xs ++ p ∷ ys
places_moved [] p ys = refl
places_moved (x ∷ xs) p ys = ap (λ zs. x ∷ zs) (places_moved xs p ys)

pub places_further : (w : WrittenFunction) (fs new : List TypedFunction) (f : TypedFunction) (p : Place) (rest others places : List Place) → new ≡ fs ++ f ∷ [] → ◌≡◌ {A = Result (WrittenFunction × Place) Breach} (Ok (w, p)) (Ok (view_placed f)) → rest ≡ p ∷ others → places_in fs ++ rest ≡ places → places_in new ++ others ≡ places
places_further w fs new f p rest others places is made r h =
    let x : p ≡ f.place = ap (λ y. let z = given (view_placed f) y in z.1) made in
    ap (λ gs. places_in gs ++ others) is ∙ ap (λ ps. ps ++ others) (places_append fs (f ∷ [])) ∙ places_moved (places_in fs) f.place others ∙ ap (λ q. places_in fs ++ q ∷ others) (sym x) ∙ ap (λ ps. places_in fs ++ ps) (sym r) ∙ h
