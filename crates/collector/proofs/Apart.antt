-- Where no path is taken, the exporters write to files of their own.
use Rattle.std.proofs.Common.{◌≡◌, ◌∙◌, ◌++◌, ◌||◌, ◌∷◌, [], List, ℕ, Bool, true, false, Option, Some, None, Result, Ok, Err, IsOk, IfOk, map, ap, sym, refl, subst, inl, inr, codes}
use Rattle.std.specs.Str.{bytes_eq}
use Rattle.std.proofs.lemmas.List.Folds.{list_any-append}
use Rattle.contract_words.specs.Held.{Held, SameHeld}
use Rattle.conf_draft.specs.Limits.{files_fault, path_fault, paths_fault}
use Rattle.conf_draft.specs.References.{is_among}
use Rattle.conf_draft.specs.declared.draft.Draft.{Draft}
use Rattle.conf_draft.specs.declared.draft.Exporter.{Exporter}
use Rattle.conf_json.specs.Fault.{from_pointed, lifted, without_inner, ◌>>=◌}
use Rattle.conf_json.specs.declared.fault.ConfFault.{ConfFault}
use Rattle.conf_json.specs.declared.fault.ConfStop.{ConfStop}
use Rattle.conf_json.specs.declared.fault.ConfStop.TheVariants as conf_stop
use Rattle.conf_shape.specs.Fault.{Finds, first_of, unless}
use Rattle.conf_shape.specs.declared.fault.PointedStop.{PointedStop}
use Rattle.conf_shape.specs.declared.fault.PointedStop.TheVariants as pointed_stop
use Rattle.graph_build.specs.Checks.{Checks}
use Rattle.conf_shape.specs.Pointer.{member_of}
use Rattle.conf_shape.specs.declared.fault.PointedFault.{PointedFault}
use Rattle.export_sink.specs.Files.{AreApart, IsNoFile}
use Rattle.export_sink.specs.Writing.{empty_files, file}
use Rattle.graph_build.specs.Conf.{Conf, HasDraft, conf_of}
use Rattle.pdata_value.proofs.Bools.{bytes_self}
use Rattle.collector.specs.Configured.{runnable}
use Rattle.collector.specs.RunLines.{ApartFrom, Plans}
use Rattle.collector.specs.Source.{IsSafeFrom, text_in}
use Rattle.collector.specs.declared.source.Source.{Source}
use Rattle.collector.specs.declared.source.Source.TheVariants.{File, Made}

none-first : (a b : Option PointedFault) → first_of a b ≡ None → a ≡ None
none-first None b is = refl
none-first (Some f) b is = absurd cc

none-later : (a b : Option PointedFault) → first_of a b ≡ None → b ≡ None
none-later None b is = is
none-later (Some f) b is = absurd cc

not-among : (at : List ℕ) (earlier : List (List ℕ)) (path : List ℕ) (b : Bool) → is_among path earlier ≡ b → path_fault at earlier path ≡ None → b ≡ false
not-among at earlier path true is none = absurd (let e = is in cc)
not-among at earlier path false is none = refl

one-more : (path other : List ℕ) (earlier : List (List ℕ)) → is_among path earlier ≡ true → is_among path (earlier ++ other ∷ []) ≡ true
one-more path other earlier is = list_any-append (bytes_eq path) earlier (other ∷ []) ∙ ap (λ (b : Bool). b || is_among path (other ∷ [])) is

or-true : (b : Bool) → (b || true) ≡ true
or-true true = refl
or-true false = refl

itself : (path : List ℕ) (earlier : List (List ℕ)) → is_among path (earlier ++ path ∷ []) ≡ true
itself path earlier =
    list_any-append (bytes_eq path) earlier (path ∷ [])
    ∙ (ap (λ (b : Bool). is_among path earlier || (b || false)) (bytes_self path) ∙ or-true (is_among path earlier))

-- the exporters write to files of their own, and to none of the names before theirs
paths_apart : (at : List ℕ) (earlier : List (List ℕ)) (es : List Exporter) → paths_fault at earlier es ≡ None
    → AreApart (empty_files es) × ((name : List ℕ) → is_among name earlier ≡ true → IsNoFile name (empty_files es))
paths_apart at earlier [] none = (tt, λ name is. tt)
paths_apart at earlier (e ∷ es) none =
    let place = member_of (member_of at e.name) (codes "path") in
    let rest = paths_fault at (earlier ++ e.path ∷ []) es in
    let first = not-among place earlier e.path (is_among e.path earlier) refl (none-first (path_fault place earlier e.path) rest none) in
    let later = paths_apart at (earlier ++ e.path ∷ []) es (none-later (path_fault place earlier e.path) rest none) in (
      (later.1 e.path (itself e.path earlier), later.0),
      λ name is. ((λ same. absurd (let e1 = ap (λ (n : List ℕ). is_among n earlier) same in let e2 = is in let e3 = first in cc)), later.1 name (one-more name e.path earlier is)),
    )

-- so it is of a configuration, and of an input under one of the names, or under none
pub apart-by : (names : List (List ℕ)) (conf : Conf) → files_fault names conf.meant.draft ≡ None → (source : Source) (name : List ℕ) → IsSafeFrom names source name → ApartFrom (text_in source name) conf
apart-by names conf none File name safe =
    let both = paths_apart (member_of [] (codes "exporters")) names conf.meant.draft.exporters none in
    record { own = both.0; unread = λ was now only. only name (both.1 name safe) }
apart-by names conf none (Made memory) name safe =
    let both = paths_apart (member_of [] (codes "exporters")) names conf.meant.draft.exporters none in
    record { own = both.0; unread = λ was now only. refl }

-- what stands the same is the same input
pub keeps-same : (source : Source) (name : List ℕ) (was now : Held) → SameHeld was now → text_in source name now ≡ text_in source name was
keeps-same File name was now same = same name
keeps-same (Made memory) name was now same = refl

-- a file under the first of the names is one of them
pub safe-first : (name : List ℕ) (names : List (List ℕ)) → IsSafeFrom (name ∷ names) File name
safe-first name names = ap (λ (b : Bool). b || is_among name names) (bytes_self name)

-- a configuration that may run is one without a fault
pub record MayRun (names : List (List ℕ)) (bytes : List ℕ) : Type 0 where
  pub conf : Conf
  pub is : conf_of bytes ≡ Ok conf
  pub runs : runnable names bytes ≡ Ok conf
  pub apart : files_fault names conf.meant.draft ≡ None

judged-paths : (o : Option PointedFault) (conf : Conf) → IsOk (lifted (unless o conf)) → (lifted (unless o conf) ≡ Ok conf) × (o ≡ None)
judged-paths None conf ok = (refl, refl)
judged-paths (Some f) conf ok = absurd (let e = ok in cc)

may-by : (names : List (List ℕ)) (bytes : List ℕ) (r : Result Conf ConfFault) → conf_of bytes ≡ r
    → (runnable names bytes ≡ (r >>= λ conf. lifted (unless (files_fault names conf.meant.draft) conf)))
    → IsOk (r >>= λ conf. lifted (unless (files_fault names conf.meant.draft) conf)) → MayRun names bytes
may-by names bytes (Ok conf) is runs ok =
    let both = judged-paths (files_fault names conf.meant.draft) conf ok in
    record { conf = conf; is = is; runs = runs ∙ both.0; apart = both.1 }
may-by names bytes (Err f) is runs ok = absurd (let e = ok in cc)

pub may-run : (names : List (List ℕ)) (bytes : List ℕ) → IsOk (runnable names bytes) → MayRun names bytes
unfolding runnable
may-run names bytes ok = may-by names bytes (conf_of bytes) refl refl ok

-- so the files of a plan that may run are apart
pub apart-plan : (names : List (List ℕ)) (source : Source) (name bytes plan : List ℕ) → IsSafeFrom names source name → plan ≡ bytes → IsOk (runnable names bytes) → IfOk (conf_of plan) (ApartFrom (text_in source name))
apart-plan names source name bytes plan safe is ok =
    let may = may-run names bytes ok in
    subst (λ (b : List ℕ). IfOk (conf_of b) (ApartFrom (text_in source name))) (sym is)
    (subst (λ (r : Result Conf ConfFault). IfOk r (ApartFrom (text_in source name))) (sym may.is) (apart-by names may.conf may.apart source name safe))

-- without a fault of its own, it is the paths that decide
abbrev runs_by : (names : List (List ℕ)) (r : Result Conf ConfFault) → Result Conf ConfFault
runs_by names r = r >>= λ conf. lifted (unless (files_fault names conf.meant.draft) conf)

taken-by : (names : List (List ℕ)) (draft : Draft) (r : Result Conf ConfFault) (f : PointedFault) → HasDraft draft r → files_fault names draft ≡ Some f → runs_by names r ≡ Err (without_inner f)
taken-by names draft (Ok conf) f has is =
    ap (λ (o : Option PointedFault). lifted (unless o conf)) (ap (files_fault names) (sym has) ∙ is)
taken-by names draft (Err g) f has is = absurd has

free-by : (names : List (List ℕ)) (draft : Draft) (r : Result Conf ConfFault) → HasDraft draft r → files_fault names draft ≡ None → IsOk (runs_by names r)
free-by names draft (Ok conf) has is =
    subst (λ (o : Option PointedFault). IsOk (lifted (unless o conf))) (sym (ap (files_fault names) (sym has) ∙ is)) refl
free-by names draft (Err g) has is = absurd has

module _ (names : List (List ℕ)) (bytes : List ℕ) (before now : ℕ) where
  pub plans-unread : (stop : ConfStop) → Checks before now (Err stop) bytes → Plans before now names bytes (Err stop)
  unfolding runnable conf_of
  plans-unread (conf_stop.Fault f) checks = elim checks [
    | inl is ↦ inl (ap (runs_by names) is)
    | inr size ↦ inr size
  ]
  plans-unread conf_stop.NoMemory checks = checks

  pub plans-taken : (draft : Draft) (stop : PointedStop) → HasDraft draft (conf_of bytes) → Finds {T = Unit {0}} (Err stop) (files_fault names draft) → Plans before now names bytes (Err (from_pointed stop))
  unfolding runnable conf_of
  plans-taken draft (pointed_stop.Fault f) has finds = inl (taken-by names draft (conf_of bytes) f has finds)
  plans-taken draft pointed_stop.NoMemory has finds = finds

  pub plans-free : (draft : Draft) (plan : List ℕ) → plan ≡ bytes → now ≡ before → HasDraft draft (conf_of bytes) → files_fault names draft ≡ None → Plans before now names bytes (Ok plan)
  unfolding runnable conf_of
  plans-free draft plan is same has none = (is, free-by names draft (conf_of bytes) has none, same)

-- names of files don't depend on their texts
pub no-file-texts : (name : List ℕ) (es : List Exporter) (f : Exporter → List ℕ) → IsNoFile name (empty_files es) → IsNoFile name (map (λ e. file e (f e)) es)
no-file-texts name [] f none = tt
no-file-texts name (e ∷ es) f none = (none.0, no-file-texts name es f none.1)

pub apart-texts : (es : List Exporter) (f : Exporter → List ℕ) → AreApart (empty_files es) → AreApart (map (λ e. file e (f e)) es)
apart-texts [] f apart = tt
apart-texts (e ∷ es) f apart = (no-file-texts e.path es f apart.0, apart-texts es f apart.1)
