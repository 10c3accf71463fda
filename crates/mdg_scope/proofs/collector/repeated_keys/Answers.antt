use Rattle.std.proofs.Common.{◌≡◌, ap, ◌∙◌, if◌then◌else◌}
use Rattle.mdg_scope.specs.declared.occurrence.OccurrenceKind.TheVariants as r
use Rattle.mdg_scope.specs.Names.{add_name, has_name}
use Rattle.mdg_tree.specs.Views.{key_name}
use Rattle.mdg_scope.specs.Collectors.{add}
use Rattle.mdg_scope.proofs.KeyLemmas.{one_key}
use Rattle.mdg_scope.proofs.collector.repeated_keys.Goals as goal

pub loop-property-preserved : goal.loop-property-preserved
loop-property-preserved c =
    let key : c.as_str-key.result.now ≡ key_name c.property-item.result.key = c.as_str-key.ensures ∙ c.key_name.ensures in
    c.loop-property.invariant
    ∙ one_key c.args.within c.loop-property.seen c.repeated_key.new.seen c.loop-property.into c.repeated_key.new.into c.args.properties.now c.loop-property.property-index _ c.property-item.result c.loop-property-test.true c.property-item.is
    (c.in_ok-repeated_key.ensures.seen ∙ ap (λ k. add_name c.loop-property.seen k) key)
    (c.in_ok-repeated_key.ensures.occurrence ∙ ap (λ k. if has_name c.loop-property.seen k then add r.RepeatedKey c.property-item.result.at.offset c.args.within k c.loop-property.into else c.loop-property.into) key)
