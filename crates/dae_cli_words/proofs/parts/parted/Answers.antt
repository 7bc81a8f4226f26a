use Rattle.std.proofs.Common.{map, string_bytes, ap, ◌∙◌}
use Rattle.std.proofs.lemmas.List.{map-append}
use Rattle.dae_cli_words.proofs.Fronts.{front_short, texts_dashed, texts_plain}
use Rattle.dae_cli_words.proofs.parts.parted.Goals as goal

pub split_at-requires : goal.split_at-requires
split_at-requires c = rw c.dashed.ensures (front_short string_bytes c.args.words.now)

pub returns : goal.returns
returns c =
    let split = c.split_at.ensures in
    record {
      whole = ap (map string_bytes) split.by_index.0 ∙ map-append string_bytes c.split_at.result.0.now c.split_at.result.1.now;
      dashed = rw (split.front, c.dashed.ensures) (texts_dashed string_bytes c.args.words.now);
      plain = rw (split.back, c.dashed.ensures) (texts_plain string_bytes c.args.words.now);
    }
