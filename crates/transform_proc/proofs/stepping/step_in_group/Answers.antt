use Rattle.std.proofs.Common.{◌≡◌, ◌∙◌, ℕ, List, suc, drop, length, Option, None, Some, ap, arith, refl, subst, sym}
use Rattle.std.specs.Prelude.{IfSome, slice_get}
use Rattle.std.proofs.lemmas.Option.{slice_get_read}
use Rattle.conf_json.specs.declared.account.StepEnd.TheVariants as end
use Rattle.conf_json.specs.declared.settings.Group.{Group}
use Rattle.pdata_tree.specs.Operations.{log_trees}
use Rattle.pdata_tree.specs.Places.{targets}
use Rattle.pdata_tree.specs.declared.place.Place.{Place}
use Rattle.share_cow.specs.Keeping.{keeps_refl}
use Rattle.share_cow.specs.Scene.{tree_of}
use Rattle.transform_proc.proofs.Leaving.{group_step, leaves_beside, leaves_moved, no_target, on_target}
use Rattle.transform_proc.proofs.Moving.{none_past, of_listed}
use Rattle.transform_proc.specs.Progress.{Leaves, Progress, here, run_of, work_at}
use Rattle.transform_proc.specs.Steps.{next_group, target_step}
use Rattle.transform_proc.proofs.stepping.step_in_group.Goals as goal

pub returns-in_default-list : goal.returns-in_default-list
returns-in_default-list c =
    let settings = c.args.site.now.settings.now in
    let root = c.args.site.now.root.now in
    let forest = c.args.forest.now in
    let tree = tree_of forest root in
    let p = c.args.cursor.now in
    let book = c.args.book.now in
    let g = c.in-Some.group.now in
    let at : slice_get settings.log_statements p.group ≡ Some g =
    subst (λ (n : ℕ). slice_get settings.log_statements n ≡ Some g) (ap (λ (y : Progress). y.group) c.cursor.view_is)
    (subst (λ (xs : List Group). slice_get xs c.cursor.inside.group ≡ Some g) c.as_slice-groups.ensures
    (slice_get_read c.as_slice-groups.result.now (length c.as_slice-groups.result.now) c.cursor.inside.group g refl c.in-Some.ensures.lookup.3.0
    c.in-Some.ensures.lookup.1)) in
    subst (λ (y : Progress). Leaves settings root (group_step settings tree p g at book) (run_of settings tree p book) p.steps p y forest forest book end.NoMemory)
    (sym c.in_default-list.ensures.err)
    (record { step = refl; counted = refl; over = refl; fits = c.requires.fits; keeps = keeps_refl root forest; failed = tt })

pub returns-in_default-place : goal.returns-in_default-place
returns-in_default-place c =
    let settings = c.args.site.now.settings.now in
    let root = c.args.site.now.root.now in
    let forest = c.args.forest.now in
    let tree = tree_of forest root in
    let p = c.args.cursor.now in
    let book = c.args.book.now in
    let g = c.in-Some.group.now in
    let at : slice_get settings.log_statements p.group ≡ Some g =
    subst (λ (n : ℕ). slice_get settings.log_statements n ≡ Some g) (ap (λ (y : Progress). y.group) c.cursor.view_is)
    (subst (λ (xs : List Group). slice_get xs c.cursor.inside.group ≡ Some g) c.as_slice-groups.ensures
    (slice_get_read c.as_slice-groups.result.now (length c.as_slice-groups.result.now) c.cursor.inside.group g refl c.in-Some.ensures.lookup.3.0
    c.in-Some.ensures.lookup.1)) in
    let places = targets tree g.context in
    let listed : Progress = record p { listed = Some places } in
    let is : c.list.new.self ≡ listed = c.in-Ok-list.ensures.listed in
    let found = of_listed c.list.new.self.listed places (λ (ps : List Place). c.place.result ≡ slice_get ps c.list.new.self.target)
    (ap (λ (y : Progress). y.listed) is) c.place.ensures in
    leaves_moved settings root (group_step settings tree p g at book) (run_of settings tree p book) p c.next_group.new.self forest forest book
    c.next_group.result c.next_group.ensures.moved
    (no_target settings tree listed g at book (none_past places p.target (subst (λ (n : ℕ). slice_get places n ≡ None) (ap (λ (y : Progress). y.target) is) (sym found ∙ c.in_default-place.is)))
    ∙ ap (λ (y : Progress). next_group log_trees (run_of settings tree y book) (drop (suc y.group) settings.log_statements)) (sym is)
    ∙ c.next_group.ensures.value tree book)
    (record {
      steps = c.next_group.ensures.beside.steps ∙ ap (λ (y : Progress). y.steps) is;
      over = c.next_group.ensures.beside.over ∙ ap (λ (y : Progress). y.over) is;
    })
    (λ group there. subst (λ (o : Option (List Place)). IfSome o (λ ps. ps ≡ targets tree group.context)) (sym c.next_group.ensures.listed) tt)
    (keeps_refl root forest)

pub step_on_target-requires-clause-at : goal.step_on_target-requires-clause-at
step_on_target-requires-clause-at c =
    let settings = c.args.site.now.settings.now in
    let root = c.args.site.now.root.now in
    let forest = c.args.forest.now in
    let tree = tree_of forest root in
    let p = c.args.cursor.now in
    let book = c.args.book.now in
    let g = c.in-Some.group.now in
    let at : slice_get settings.log_statements p.group ≡ Some g =
    subst (λ (n : ℕ). slice_get settings.log_statements n ≡ Some g) (ap (λ (y : Progress). y.group) c.cursor.view_is)
    (subst (λ (xs : List Group). slice_get xs c.cursor.inside.group ≡ Some g) c.as_slice-groups.ensures
    (slice_get_read c.as_slice-groups.result.now (length c.as_slice-groups.result.now) c.cursor.inside.group g refl c.in-Some.ensures.lookup.3.0
    c.in-Some.ensures.lookup.1)) in
    let places = targets tree g.context in
    let listed : Progress = record p { listed = Some places } in
    let is : c.list.new.self ≡ listed = c.in-Ok-list.ensures.listed in
    let found = of_listed c.list.new.self.listed places (λ (ps : List Place). c.place.result ≡ slice_get ps c.list.new.self.target)
    (ap (λ (y : Progress). y.listed) is) c.place.ensures in
    record {
      mode = refl;
      number = omega (arith, c.in-Ok.ensures, ap (λ (y : Progress). y.group) c.cursor.view_is, ap (λ (y : Progress). y.group) is);
      group = ap (λ (y : Progress). slice_get settings.log_statements y.group) is ∙ at;
      listed = ap (λ (y : Progress). y.listed) is;
      place = sym found ∙ c.in-Some-place.is;
    }

pub returns : goal.returns
returns c =
    let settings = c.args.site.now.settings.now in
    let root = c.args.site.now.root.now in
    let forest = c.args.forest.now in
    let tree = tree_of forest root in
    let p = c.args.cursor.now in
    let book = c.args.book.now in
    let g = c.in-Some.group.now in
    let at : slice_get settings.log_statements p.group ≡ Some g =
    subst (λ (n : ℕ). slice_get settings.log_statements n ≡ Some g) (ap (λ (y : Progress). y.group) c.cursor.view_is)
    (subst (λ (xs : List Group). slice_get xs c.cursor.inside.group ≡ Some g) c.as_slice-groups.ensures
    (slice_get_read c.as_slice-groups.result.now (length c.as_slice-groups.result.now) c.cursor.inside.group g refl c.in-Some.ensures.lookup.3.0
    c.in-Some.ensures.lookup.1)) in
    let places = targets tree g.context in
    let listed : Progress = record p { listed = Some places } in
    let is : c.list.new.self ≡ listed = c.in-Ok-list.ensures.listed in
    let found = of_listed c.list.new.self.listed places (λ (ps : List Place). c.place.result ≡ slice_get ps c.list.new.self.target)
    (ap (λ (y : Progress). y.listed) is) c.place.ensures in
    let place = c.in-Some-place.place in
    let there : slice_get places p.target ≡ Some place =
    subst (λ (n : ℕ). slice_get places n ≡ Some place) (ap (λ (y : Progress). y.target) is) (sym found ∙ c.in-Some-place.is) in
    leaves_beside settings root (group_step settings tree p g at book)
    (target_step log_trees settings.error_mode (run_of settings tree c.list.new.self book) (here settings tree c.list.new.self g place) (work_at g c.list.new.self.running))
    (run_of settings tree p book) (run_of settings tree c.list.new.self book) p.steps p c.list.new.self c.step_on_target.new.cursor forest
    c.step_on_target.new.forest c.step_on_target.new.book c.step_on_target.result
    (ap (λ (y : Progress). target_step log_trees settings.error_mode (run_of settings tree y book) (here settings tree y g place) (work_at g y.running)) is
    ∙ sym (on_target settings tree listed g at book place there))
    (ap (λ (y : Progress). run_of settings tree y book) is) (ap (λ (y : Progress). y.over) is)
    (subst (λ (n : ℕ). Leaves settings root
    (target_step log_trees settings.error_mode (run_of settings tree c.list.new.self book) (here settings tree c.list.new.self g place) (work_at g c.list.new.self.running))
    (run_of settings tree c.list.new.self book) n c.list.new.self c.step_on_target.new.cursor forest c.step_on_target.new.forest c.step_on_target.new.book
    c.step_on_target.result) (ap (λ (y : Progress). y.steps) is) c.step_on_target.ensures)
