-- Which fields a context has, and which object holds them.
use Rattle.std.specs.Prelude.{Bool, true, false}
use Rattle.pdata_tree.specs.declared.path.Field.{Field}
use Rattle.pdata_tree.specs.declared.path.Field.TheVariants.{Attributes, DroppedAttributesCount, Name, Version, ResourceAttributes, ResourceDroppedAttributesCount, InstrumentationScopeAttributes, InstrumentationScopeName, InstrumentationScopeVersion, Body, Cache}
use Rattle.pdata_tree.specs.declared.place.Context.{Context}
use Rattle.pdata_tree.specs.declared.place.Context.TheVariants.{Resource, Scope, Log}

-- whether a context is that of scopes
abbrev pub is_scope : Context → Bool
is_scope Scope = true
is_scope _ = false

-- whether a context is that of log records
abbrev pub is_log : Context → Bool
is_log Log = true
is_log _ = false

-- whether a context is below that of resources
abbrev pub is_below_resource : Context → Bool
is_below_resource Resource = false
is_below_resource _ = true

-- whether the field is one of the context's
abbrev pub is_field_of : Context → Field → Bool
is_field_of context Attributes = true
is_field_of context DroppedAttributesCount = true
is_field_of context Cache = true
is_field_of context Name = is_scope context
is_field_of context Version = is_scope context
is_field_of context ResourceAttributes = is_below_resource context
is_field_of context ResourceDroppedAttributesCount = is_below_resource context
is_field_of context _ = is_log context

-- the kind of object that holds a field of a context
abbrev pub level_of : Context → Field → Context
level_of context ResourceAttributes = Resource
level_of context ResourceDroppedAttributesCount = Resource
level_of context InstrumentationScopeAttributes = Scope
level_of context InstrumentationScopeName = Scope
level_of context InstrumentationScopeVersion = Scope
level_of context _ = context

-- whether keys may follow the field
abbrev pub takes_keys : Field → Bool
takes_keys Attributes = true
takes_keys ResourceAttributes = true
takes_keys InstrumentationScopeAttributes = true
takes_keys Body = true
takes_keys Cache = true
takes_keys _ = false
