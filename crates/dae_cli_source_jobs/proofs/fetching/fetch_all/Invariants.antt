use Rattle.std.proofs.Common.{◌≡◌, ◌≤◌, map, string_bytes, drop}
use Rattle.dae_io.specs.Told.{TellsSame}
use Rattle.dae_accept.specs.Read.{texts_in}
use Rattle.dae_cli_source_jobs.specs.Fetching.{most_source}
use Rattle.dae_cli_source_jobs.proofs.OnWay.{IsOnWay}
use Rattle.dae_cli_source_jobs.proofs.fetching.fetch_all.Given as goal

-- the texts so far, and what is left for the files that are left
abbrev pub invariant-loop-name : goal.invariant-loop-name
invariant-loop-name g l =
    let told = g.F.Shelf.told in
    record {
      few : l.left ≤ most_source;
      way : IsOnWay (told l.fn.shelf) most_source (map string_bytes l.names) l.left (map string_bytes (drop l.name-index l.names)) (texts_in l.texts.items);
      held : TellsSame (told l.fn.shelf) (told l.shelf);
      counted : g.F.Shelf.count l.fn.shelf ≤ g.F.Shelf.count l.shelf;
      given : g.F.Shelf.given l.shelf ≡ g.F.Shelf.given l.fn.shelf;
    }
