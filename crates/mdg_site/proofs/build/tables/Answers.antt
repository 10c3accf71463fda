use Rattle.std.proofs.Common.{◌≡◌, ◌≤◌, ◌∙◌, ap, subst, sym, length}
use Rattle.std.specs.Prelude.{ℕ}
use Rattle.mdg_code.specs.declared.code.Code.{Code}
use Rattle.mdg_site.specs.Answers.{node_limit}
use Rattle.mdg_site.specs.Laid.{laid}
use Rattle.mdg_site.specs.Nodes.{node_count}
use Rattle.mdg_site.specs.Rows.{row_count}
use Rattle.mdg_site.specs.Tables.{AreTables, IsSmall}
use Rattle.mdg_site.proofs.FitLemmas.{kinds_of, known_below, locals_below, objects_below, sizes_fit, small_of, table_of}
use Rattle.mdg_site.proofs.NumberLemmas.{known_end, locals_end, nodes_end, objects_end, parameters_end, rows_few}
use Rattle.mdg_site.proofs.build.tables.Goals as goal

pub starts-requires-3 : goal.starts-requires-3
starts-requires-3 c = objects_below (laid c.args.code.now) (small_of c.args.code.now c.args.nodes c.requires.counted c.requires.nodes_are c.requires.few c.requires.few_words).nodes

pub starts-requires-5 : goal.starts-requires-5
starts-requires-5 c = known_below (laid c.args.code.now) (rows_few (laid c.args.code.now) (small_of c.args.code.now c.args.nodes c.requires.counted c.requires.nodes_are c.requires.few c.requires.few_words))

pub starts-requires-6 : goal.starts-requires-6
starts-requires-6 c = sizes_fit (laid c.args.code.now) c.kind_sizes-sizes.result (rows_few (laid c.args.code.now) (small_of c.args.code.now c.args.nodes c.requires.counted c.requires.nodes_are c.requires.few c.requires.few_words)) c.kind_sizes-sizes.ensures

pub invariant_of-result : goal.invariant_of-result
invariant_of-result c =
    let l = laid c.args.code.now in
    let of : c.args.code.now ≡ c.of.result.value = sym c.of.ensures in
    record {
      functions_are = ap length c.as_slice.ensures ∙ ap (λ (z : Code). length z.functions) of;
      cells_are = ap length c.as_slice-2.ensures ∙ ap (λ (z : Code). length z.cells) of;
      shared_are = ap length c.as_slice-3.ensures ∙ ap (λ (z : Code). length z.shared) of;
      names_are = ap length c.as_slice-4.ensures ∙ ap (λ (z : Code). length z.columns) of;
      small = subst (λ (z : Code). IsSmall (laid z)) of (small_of c.args.code.now c.args.nodes c.requires.counted c.requires.nodes_are c.requires.few c.requires.few_words);
      tables = subst (λ (z : Code). AreTables (laid z) c.in_ok-starts.field-0.items c.in_ok-starts-2.field-0.items c.in_ok-starts-3.field-0.items c.in_ok-starts-4.field-0.items c.in_ok-starts-5.field-0.items c.in_ok-starts-6.field-0.items c.in_ok-shapes.field-0.items) of (record {
        sources_are = table_of _ _ _ c.in_ok-starts.ensures (parameters_end l);
        nodes_are = table_of _ _ _ c.in_ok-starts-2.ensures (nodes_end l);
        objects_are = table_of _ _ _ c.in_ok-starts-3.ensures (objects_end l);
        locals_are = table_of _ _ _ c.in_ok-starts-4.ensures (locals_end l);
        known_are = table_of _ _ _ c.in_ok-starts-5.ensures (known_end l);
        starts_are = kinds_of l c.kind_sizes-sizes.result _ (rows_few (laid c.args.code.now) (small_of c.args.code.now c.args.nodes c.requires.counted c.requires.nodes_are c.requires.few c.requires.few_words)) c.kind_sizes-sizes.ensures c.in_ok-starts-6.ensures;
        shapes_are = c.in_ok-shapes.ensures;
      });
    }
