use Rattle.std.proofs.Common.{◌≡◌, ◌∙◌, Some, ap, length, refl, slice_get, sym}
use Rattle.std.proofs.lemmas.Option.{slice_get_read}
use Rattle.dae_unit.proofs.Known.{known_put, known_taken, types_told}
use Rattle.dae_unit.proofs.clashes.same_types.Goals as goal

pub same_across-requires : goal.same_across-requires
same_across-requires c =
    let a = c.args in
    let one = c.in-Some.ensures.lookup in
    let other = c.in-Some-get.ensures.lookup in
    let left : slice_get a.files.now a.x.file ≡ Some c.parts-f.result.now = slice_get_read a.files.now (length a.files.now) a.x.file c.in-Some.file.now refl one.3.0 one.1 ∙ ap Some (sym c.parts-f.ensures.value) in
    let right : slice_get a.files.now a.y.file ≡ Some c.parts-g.result.now = slice_get_read a.files.now (length a.files.now) a.y.file c.in-Some-get.file.now refl other.3.0 other.1 ∙ ap Some (sym c.parts-g.ensures.value) in
    known_taken a.files.now (a.x.file, a.y.file) c.parts-f.result.now c.parts-g.result.now left right a.known.now.entries c.requires c.take_known-couples.result.entries c.take_known-couples.ensures.taken

pub returns-clause-same : goal.returns-clause-same
returns-clause-same c =
    let a = c.args in
    let one = c.in-Some.ensures.lookup in
    let other = c.in-Some-get.ensures.lookup in
    let left : slice_get a.files.now a.x.file ≡ Some c.parts-f.result.now = slice_get_read a.files.now (length a.files.now) a.x.file c.in-Some.file.now refl one.3.0 one.1 ∙ ap Some (sym c.parts-f.ensures.value) in
    let right : slice_get a.files.now a.y.file ≡ Some c.parts-g.result.now = slice_get_read a.files.now (length a.files.now) a.y.file c.in-Some-get.file.now refl other.3.0 other.1 ∙ ap Some (sym c.parts-g.ensures.value) in
    types_told a.files.now a.x a.y c.parts-f.result.now c.parts-g.result.now left right c.type_in-left.result c.type_in-right.result c.type_in-left.ensures c.type_in-right.ensures c.in_ok-same.same c.in_ok-same.ensures.same

pub returns-clause-known : goal.returns-clause-known
returns-clause-known c =
    let a = c.args in
    let one = c.in-Some.ensures.lookup in
    let other = c.in-Some-get.ensures.lookup in
    let left : slice_get a.files.now a.x.file ≡ Some c.parts-f.result.now = slice_get_read a.files.now (length a.files.now) a.x.file c.in-Some.file.now refl one.3.0 one.1 ∙ ap Some (sym c.parts-f.ensures.value) in
    let right : slice_get a.files.now a.y.file ≡ Some c.parts-g.result.now = slice_get_read a.files.now (length a.files.now) a.y.file c.in-Some-get.file.now refl other.3.0 other.1 ∙ ap Some (sym c.parts-g.ensures.value) in
    known_put a.files.now (a.x.file, a.y.file) c.parts-f.result.now c.parts-g.result.now left right a.known.now.entries c.take_known-couples.new.known.entries c.insert.new.self.entries c.same_across.new.known c.in_ok-same.ensures.known c.take_known-couples.ensures.kept (λ q. c.in_ok-insert.ensures.updates.0 q) c.requires
