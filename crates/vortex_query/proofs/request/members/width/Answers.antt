use Rattle.std.proofs.Common.{◌∙◌, sym, ap, length}
use Rattle.serde_json.proofs.Views.{view-Array, view-Object, items_len-items_view, members_len-members_view}
use Rattle.vortex_query.specs.Members.{width}
use Rattle.vortex_query.proofs.request.members.width.Goals as goal

pub returns-in-Array : goal.returns-in-Array
returns-in-Array c = rw c.in-Array.is (ap length c.as_slice.ensures.value ∙ sym (ap width (view-Array c.in-Array.items) ∙ items_len-items_view c.in-Array.items.items))

pub returns-in-Object : goal.returns-in-Object
returns-in-Object c = rw c.in-Object.is (c.len.ensures.len ∙ sym (ap width (view-Object c.in-Object.members) ∙ members_len-members_view c.in-Object.members.entries))
