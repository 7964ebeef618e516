use Rattle.std.proofs.Common.{sym, ◌∙◌}
use Rattle.pdata_tree.specs.declared.place.Context.TheVariants.{Resource, Scope, Log}
use Rattle.share_cow.proofs.Inside.{level_way}
use Rattle.share_cow.proofs.forest.Forest.write_at.Goals as goal

pub write_at_resource-requires : goal.write_at_resource-requires
write_at_resource-requires c = level_way c.args.self.now c.args.root.now c.args.context c.args.place c.args.path.now.field Resource c.requires (sym c.is_of.ensures ∙ c.if-not-is_of.false) c.in-Resource.ensures

pub write_at_scope-requires : goal.write_at_scope-requires
write_at_scope-requires c = level_way c.args.self.now c.args.root.now c.args.context c.args.place c.args.path.now.field Scope c.requires (sym c.is_of.ensures ∙ c.if-not-is_of.false) c.in-Scope.ensures

pub write_at_log-requires : goal.write_at_log-requires
write_at_log-requires c = level_way c.args.self.now c.args.root.now c.args.context c.args.place c.args.path.now.field Log c.requires (sym c.is_of.ensures ∙ c.if-not-is_of.false) c.in-Log.ensures
