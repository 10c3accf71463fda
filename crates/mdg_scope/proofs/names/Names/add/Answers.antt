use Rattle.std.proofs.Common.{sym, ap, ◌∙◌, not, map}
use Rattle.std.specs.Str.{bytes_eq}
use Rattle.mdg_scope.specs.Names.{has_name, add_name}
use Rattle.mdg_scope.proofs.TableLemmas.{any_mapped, mapped_choice}
use Rattle.mdg_scope.proofs.names.Names.add.Goals as goal

pub returns-clause-added : goal.returns-clause-added
returns-clause-added c = c.in_ok-insert.ensures.added ∙ ap not (sym (any_mapped (λ k. k.now) (bytes_eq c.args.name.now) c.self.inside.names.keys) ∙ ap (λ l. has_name l c.args.name.now) c.self.view_is)

pub returns-clause-names : goal.returns-clause-names
returns-clause-names c =
    ap (λ l. map (λ k. k.now) l) c.in_ok-insert.ensures.keys
    ∙ mapped_choice (λ k. k.now) _ _ c.self.inside.names.keys c.args.name (any_mapped (λ k. k.now) (bytes_eq c.args.name.now) c.self.inside.names.keys)
    ∙ ap (λ l. add_name l c.args.name.now) c.self.view_is
