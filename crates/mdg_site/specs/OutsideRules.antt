-- The rules of calls of outside code and of shared things, case by case. In each s is the site of the call.
use Rattle.std.specs.Prelude.{ℕ, ◌+◌, List, length, Option}
use Rattle.mdg_base.specs.declared.number.Local.{Local}
use Rattle.mdg_base.specs.declared.node_name.NodeName.{NodeName}
use Rattle.mdg_site.specs.declared.row.Row.TheVariants.{Loc, Field, Newer, Dep, Ret, Known, IsFunction, IsShared, Foreign}
use Rattle.mdg_site.specs.CodeTests.{entry_in, hands_arguments, is_active, is_loose}
use Rattle.mdg_site.specs.Laid.{Laid, column, function_id, local, parameters_in, shared_id, site}
use Rattle.mdg_site.specs.Nodes.{shared_count}
use Rattle.mdg_site.specs.Rows.{column_count}
use Rattle.mdg_site.specs.Rule.{Test, meeting, static, either, also, some, Rule, puts, flow, each, upto, under, both, for_some}
use Rattle.mdg_site.specs.StatementRules.{depends, fields_into, here, next, operator_operand_at, outside_node, own_node}

-- the callee may be outside code
abbrev pub is_foreign : ℕ → Local → Test
is_foreign s callee = meeting (here s callee) Foreign

-- the callee may be the shared thing
abbrev pub is_shared_thing : ℕ → Local → ℕ → Test
is_shared_thing s callee b = meeting (here s callee) (IsShared (shared_id b))

-- the callee may be outside code, or a shared thing that answers from its arguments
abbrev pub is_answered : Laid → ℕ → Local → Test
is_answered l s callee = either (is_foreign s callee)
    (some (shared_count l) (λ b. also (static (hands_arguments l b)) (is_shared_thing s callee b)))

-- the call is active: the callee may be outside code, or a shared thing whose call may do anything
abbrev pub is_active_call : Laid → ℕ → Local → Test
is_active_call l s callee = either (is_foreign s callee)
    (some (shared_count l) (λ b. also (static (is_active l b)) (is_shared_thing s callee b)))

-- call answer: outside code knows itself
abbrev pub call_answer_callee : ℕ → Local → Rule
call_answer_callee s callee = under (is_foreign s callee) (flow (here s callee) (Known (site s)))

-- call answer: and its receiver
abbrev pub call_answer_receiver : ℕ → Local → Option Local → Rule
call_answer_receiver s callee receiver = under (is_foreign s callee) (for_some receiver (λ x. flow (here s x) (Known (site s))))

-- call answer: the arguments are known
abbrev pub call_answer_argument : ℕ → List Local → Rule
call_answer_argument s arguments = upto (length arguments) (operator_operand_at s arguments)

-- call answer: what the call makes is known
abbrev pub call_answer_own : ℕ → Rule
call_answer_own s = puts (Known (site s)) (own_node s)

-- call answer: and so are the fields of what is known
abbrev pub call_answer_fields : Laid → ℕ → Rule
call_answer_fields l s = each (Known (site s)) (fields_into l (Known (site s)))

-- call answer: what the call makes depends on all that is known
abbrev pub call_answer_depends : ℕ → Rule
call_answer_depends s = depends s (Known (site s))

-- call answer: anything that is known may be the result
abbrev pub call_answer_result : ℕ → Local → Rule
call_answer_result s into = flow (Known (site s)) (next s into)

-- where the call is answered
abbrev pub call_answer_parts : Laid → ℕ → Local → List Local → Rule
call_answer_parts l s into arguments = both (call_answer_argument s arguments) (both (call_answer_own s)
    (both (call_answer_fields l s) (both (call_answer_depends s) (call_answer_result s into))))

abbrev pub call_answer : Laid → ℕ → Local → Local → Option Local → List Local → Rule
call_answer l s into callee receiver arguments = both (call_answer_callee s callee) (both (call_answer_receiver s callee receiver)
    (under (is_answered l s callee) (call_answer_parts l s into arguments)))

-- outside effect: what outside code writes depends on all that is known
abbrev pub outside_effect_depends : ℕ → Rule
outside_effect_depends s = each (Known (site s)) (λ n. puts (Dep n) (outside_node s))

-- outside effect: it may make a new version of each object that is known
abbrev pub outside_effect_newer : Laid → ℕ → Rule
outside_effect_newer l s = each (Known (site s)) (λ n. under (static (is_loose l n)) (puts (Newer n) (outside_node s)))

-- outside effect: the version has the properties of the object
abbrev pub outside_effect_keeps_at : Laid → ℕ → NodeName → Rule
outside_effect_keeps_at l s n = under (static (is_loose l n))
    (upto (column_count l) (λ q. flow (Field n (column q)) (Field (outside_node s) (column q))))

abbrev pub outside_effect_keeps : Laid → ℕ → Rule
outside_effect_keeps l s = each (Known (site s)) (outside_effect_keeps_at l s)

-- outside effect: and anything that is known in each property
abbrev pub outside_effect_puts : Laid → ℕ → Rule
outside_effect_puts l s = upto (column_count l) (λ q. flow (Known (site s)) (Field (outside_node s) (column q)))

-- outside effect: outside code may call a function that it knows, with anything that it knows
abbrev pub outside_effect_enters : Laid → ℕ → ℕ → Rule
outside_effect_enters l s f = upto (parameters_in l f) (λ i. flow (Known (site s)) (Loc (site (entry_in l f)) (local i)))

-- outside effect: and knows what the function returns
abbrev pub outside_effect_hears : ℕ → ℕ → Rule
outside_effect_hears s f = flow (Ret (function_id f)) (Known (site s))

-- where outside code may know the function
abbrev pub outside_effect_function : Laid → ℕ → ℕ → Rule
outside_effect_function l s f = under (meeting (Known (site s)) (IsFunction (function_id f)))
    (both (outside_effect_enters l s f) (outside_effect_hears s f))

abbrev pub outside_effect_functions : Laid → ℕ → Rule
outside_effect_functions l s = upto (length l.code.functions) (outside_effect_function l s)

abbrev pub outside_effect_parts : Laid → ℕ → Rule
outside_effect_parts l s = both (outside_effect_depends s) (both (outside_effect_newer l s) (both (outside_effect_keeps l s)
    (both (outside_effect_puts l s) (outside_effect_functions l s))))

-- where the call is active
abbrev pub outside_effect : Laid → ℕ → Local → Rule
outside_effect l s callee = under (is_active_call l s callee) (outside_effect_parts l s)
