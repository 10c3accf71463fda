use Rattle.std.proofs.Common.{ap, ◌∙◌}
use Rattle.mdg_read.proofs.Files.{text_read, offset_read}
use Rattle.mdg_read.proofs.file.excluded_word.Goals as goal

pub returns-in-Ok : goal.returns-in-Ok
returns-in-Ok c =
    let t = ap (λ t. t.text) c.index-tokens-at.is ∙ text_read c.args.tokens.now c.args.at _ c.requires in
    (c.in-Ok.ensures ∙ c.as_str.ensures ∙ t, ap (λ t. t.from) c.index-tokens-at.is ∙ offset_read c.args.tokens.now c.args.at _ c.requires)
