-- What the fields of an object read and take, each as its row in the table of paths (docs/OTTL.md).
use Rattle.std.specs.Prelude.{ℕ, ◌^◌, ◌-◌, ◌&&◌, nat_lt, ℤ, pos, negsuc, int_le, cond, List, [], ◌∷◌, Option, Some, None, Result, Ok, Err}
use Rattle.pdata_value.specs.Answers.{◌>>=◌}
use Rattle.pdata_value.specs.Shown.{string_of}
use Rattle.pdata_value.specs.Wanted.{Layer, made}
use Rattle.pdata_value.specs.declared.error.EvalErr.{EvalErr}
use Rattle.pdata_value.specs.declared.error.EvalErr.TheVariants.{KindOf, Range, BadText}
use Rattle.pdata_value.specs.declared.pairs.Pairs.{Pairs}
use Rattle.pdata_value.specs.declared.value.Value.{Value, out-Value}
use Rattle.pdata_value.specs.declared.value.Value.TheOpen.{Value-F}
use Rattle.pdata_value.specs.declared.value.Value.TheVariants as kind
use Rattle.pdata_tree.specs.Ids.{id_bytes, id_text}
use Rattle.pdata_tree.specs.Walk.{walk, with_walk}
use Rattle.pdata_tree.specs.declared.path.Key.{Key}
use Rattle.pdata_tree.specs.declared.path.Field.{Field}
use Rattle.pdata_tree.specs.declared.path.Field.TheVariants.{Attributes, DroppedAttributesCount, Name, Version, ResourceAttributes, ResourceDroppedAttributesCount, InstrumentationScopeAttributes, InstrumentationScopeName, InstrumentationScopeVersion, Body, BodyString, SeverityNumber, SeverityText, Time, ObservedTime, Flags, TraceIdString, SpanIdString}
use Rattle.pdata_tree.specs.declared.record.LogRecord.{LogRecord}
use Rattle.pdata_tree.specs.declared.resource.ResourceNode.{ResourceNode}
use Rattle.pdata_tree.specs.declared.scope.ScopeNode.{ScopeNode}

-- a field that no key follows
abbrev pub plain : {X : Type 0} → List Key → Result X EvalErr → Result X EvalErr
plain [] answer = answer
plain (k ∷ ks) answer = Err KindOf

-- What fields read, and what stands below them.

-- a number that is never negative
abbrev pub number : ℕ → Result Value EvalErr
number n = Ok (kind.Int (pos n))

-- a time, where it is within 64 bits signed
abbrev pub time_value : ℕ → Result Value EvalErr
time_value n = cond (nat_lt n (2 ^ 63)) (number n) (Err Range)

-- at the fields of a resource
abbrev pub resource_reads : Field → List Key → ResourceNode → Result Value EvalErr
resource_reads Attributes keys r = walk keys (kind.Map r.attributes)
resource_reads ResourceAttributes keys r = walk keys (kind.Map r.attributes)
resource_reads DroppedAttributesCount keys r = plain keys (number r.dropped)
resource_reads ResourceDroppedAttributesCount keys r = plain keys (number r.dropped)
resource_reads _ keys r = Err KindOf

-- at the fields of a scope
abbrev pub scope_reads : Field → List Key → ScopeNode → Result Value EvalErr
scope_reads Attributes keys s = walk keys (kind.Map s.attributes)
scope_reads InstrumentationScopeAttributes keys s = walk keys (kind.Map s.attributes)
scope_reads DroppedAttributesCount keys s = plain keys (number s.dropped)
scope_reads Name keys s = plain keys (Ok (kind.Text s.name))
scope_reads InstrumentationScopeName keys s = plain keys (Ok (kind.Text s.name))
scope_reads Version keys s = plain keys (Ok (kind.Text s.version))
scope_reads InstrumentationScopeVersion keys s = plain keys (Ok (kind.Text s.version))
scope_reads _ keys s = Err KindOf

-- at the fields of a log record
abbrev pub log_reads : Field → List Key → LogRecord → Result Value EvalErr
log_reads Attributes keys l = walk keys (kind.Map l.attributes)
log_reads DroppedAttributesCount keys l = plain keys (number l.dropped)
log_reads Body keys l = walk keys l.body
log_reads BodyString keys l = plain keys (string_of l.body)
log_reads SeverityNumber keys l = plain keys (Ok (kind.Int l.severity))
log_reads SeverityText keys l = plain keys (Ok (kind.Text l.severity_text))
log_reads Time keys l = plain keys (time_value l.time)
log_reads ObservedTime keys l = plain keys (time_value l.observed)
log_reads Flags keys l = plain keys (number l.flags)
log_reads TraceIdString keys l = plain keys (Ok (kind.Text (id_text l.trace_id)))
log_reads SpanIdString keys l = plain keys (Ok (kind.Text (id_text l.span_id)))
log_reads _ keys l = Err KindOf

-- What fields take. Another kind is KindOf.

-- a map
abbrev pub map_taken : Layer → Result Pairs EvalErr
map_taken (Value-F.Map map) = Ok map
map_taken _ = Err KindOf

-- a text
abbrev pub text_taken : Layer → Result (List ℕ) EvalErr
text_taken (Value-F.Text text) = Ok text
text_taken _ = Err KindOf

-- an integer
abbrev pub int_taken : Layer → Result ℤ EvalErr
int_taken (Value-F.Int int) = Ok int
int_taken _ = Err KindOf

-- a number from 0 to below a bound
abbrev pub below_bound : ℕ → ℤ → Result ℕ EvalErr
below_bound bound (pos n) = cond (nat_lt n bound) (Ok n) (Err Range)
below_bound bound (negsuc n) = Err Range

-- an integer of 32 bits signed
abbrev pub small_int : ℤ → Result ℤ EvalErr
small_int n =
    cond (int_le (negsuc (2 ^ 31 - 1)) n && int_le n (pos (2 ^ 31 - 1))) (Ok n) (Err Range)

-- an id of so many bytes
abbrev pub id_or_bad : Option (List ℕ) → Result (List ℕ) EvalErr
id_or_bad None = Err BadText
id_or_bad (Some id) = Ok id

-- a number of 32 bits, of a value
abbrev pub u32_taken : Value → Result ℕ EvalErr
u32_taken v = int_taken (out-Value v) >>= below_bound (2 ^ 32)

-- a time from 0, of a value
abbrev pub time_taken : Value → Result ℕ EvalErr
time_taken v = int_taken (out-Value v) >>= below_bound (2 ^ 63)

-- a number of 32 bits signed, of a value
abbrev pub i32_taken : Value → Result ℤ EvalErr
i32_taken v = int_taken (out-Value v) >>= small_int

-- an id, of a value
abbrev pub id_taken : ℕ → Value → Result (List ℕ) EvalErr
id_taken size v = text_taken (out-Value v) >>= λ text. id_or_bad (id_bytes size text)

-- a text that fits, of a value
abbrev pub text_that_fits : Value → Result (List ℕ) EvalErr
text_that_fits v = text_taken (out-Value v) >>= λ text. made v >>= λ _. Ok text

-- a text that fits, as a body
abbrev pub body_text : List Key → Value → Result Value EvalErr
body_text keys v = plain keys (text_that_fits v) >>= λ text. Ok (kind.Text text)

-- a map: the one that is written, or the old one with a part replaced, where it fits
abbrev pub map_with : List Key → Value → Pairs → Result Pairs EvalErr
map_with [] v old = map_taken (out-Value v) >>= λ map. made v >>= λ _. Ok map
map_with (k ∷ ks) v old =
    with_walk (k ∷ ks) v (kind.Map old) >>= λ w. made w >>= λ _. map_taken (out-Value w)

-- a value: the one that is written, or the old one with a part replaced, where it fits
abbrev pub value_with : List Key → Value → Value → Result Value EvalErr
value_with keys v old = with_walk keys v old >>= made

-- a resource with a value written at a field or below it
abbrev pub resource_takes : Field → List Key → Value → ResourceNode → Result ResourceNode EvalErr
resource_takes Attributes keys v r =
    map_with keys v r.attributes >>= λ map. Ok (record r { attributes = map })
resource_takes ResourceAttributes keys v r =
    map_with keys v r.attributes >>= λ map. Ok (record r { attributes = map })
resource_takes DroppedAttributesCount keys v r =
    plain keys (u32_taken v) >>= λ n. Ok (record r { dropped = n })
resource_takes ResourceDroppedAttributesCount keys v r =
    plain keys (u32_taken v) >>= λ n. Ok (record r { dropped = n })
resource_takes _ keys v r = Err KindOf

-- a scope with a value written at a field or below it
abbrev pub scope_takes : Field → List Key → Value → ScopeNode → Result ScopeNode EvalErr
scope_takes Attributes keys v s =
    map_with keys v s.attributes >>= λ map. Ok (record s { attributes = map })
scope_takes InstrumentationScopeAttributes keys v s =
    map_with keys v s.attributes >>= λ map. Ok (record s { attributes = map })
scope_takes DroppedAttributesCount keys v s =
    plain keys (u32_taken v) >>= λ n. Ok (record s { dropped = n })
scope_takes Name keys v s = plain keys (text_that_fits v) >>= λ text. Ok (record s { name = text })
scope_takes InstrumentationScopeName keys v s =
    plain keys (text_that_fits v) >>= λ text. Ok (record s { name = text })
scope_takes Version keys v s =
    plain keys (text_that_fits v) >>= λ text. Ok (record s { version = text })
scope_takes InstrumentationScopeVersion keys v s =
    plain keys (text_that_fits v) >>= λ text. Ok (record s { version = text })
scope_takes _ keys v s = Err KindOf

-- a log record with a value written at a field or below it
abbrev pub log_takes : Field → List Key → Value → LogRecord → Result LogRecord EvalErr
log_takes Attributes keys v l =
    map_with keys v l.attributes >>= λ map. Ok (record l { attributes = map })
log_takes DroppedAttributesCount keys v l =
    plain keys (u32_taken v) >>= λ n. Ok (record l { dropped = n })
log_takes Body keys v l = value_with keys v l.body >>= λ body. Ok (record l { body = body })
log_takes BodyString keys v l = body_text keys v >>= λ body. Ok (record l { body = body })
log_takes SeverityNumber keys v l = plain keys (i32_taken v) >>= λ n. Ok (record l { severity = n })
log_takes SeverityText keys v l =
    plain keys (text_that_fits v) >>= λ text. Ok (record l { severity_text = text })
log_takes Time keys v l = plain keys (time_taken v) >>= λ n. Ok (record l { time = n })
log_takes ObservedTime keys v l = plain keys (time_taken v) >>= λ n. Ok (record l { observed = n })
log_takes Flags keys v l = plain keys (u32_taken v) >>= λ n. Ok (record l { flags = n })
log_takes TraceIdString keys v l =
    plain keys (id_taken 16 v) >>= λ id. Ok (record l { trace_id = id })
log_takes SpanIdString keys v l = plain keys (id_taken 8 v) >>= λ id. Ok (record l { span_id = id })
log_takes _ keys v l = Err KindOf
