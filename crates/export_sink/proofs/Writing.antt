-- From file to file: what a step over the first file and the rest leave together.
use Rattle.std.proofs.Common.{◌≡◌, ◌≤◌, ◌-◌, ◌∙◌, ◌⊎◌, ◌∷◌, [], List, ℕ, Option, Some, Ok, Err, ap, sym, refl, inl, inr, subst, append-nil, length, take, drop, get_or, arith, true, false}
use Rattle.std.proofs.lemmas.List.{take_rest}
use Rattle.contract_words.specs.Causes.{RoseIf}
use Rattle.contract_words.specs.Held.{Held, OthersStay, AddsFront}
use Rattle.tele_io.specs.Calls.{Empties, AppendsAll}
use Rattle.tele_io.specs.Views.{DiskView, Told, Writes}
use Rattle.tele_io.specs.declared.disk.DiskFault.{DiskFault}
use Rattle.tele_io.proofs.Tells.{told-then}
use Rattle.export_sink.specs.Files.{FileText, IsNoFile, OnlyThese, Each, Changed, AddsText, AddsSome, HoldTexts, FilesStay, HoldFronts}
use Rattle.export_sink.specs.Writing.{Adds, Creates}

-- what the files that are left will hold decides what all will hold
pub record Leads (all rest : List FileText) (was now : Held) : Type 0 where
  pub whole : (later : Held) → Changed AddsText rest now later → Changed AddsText all was later
  pub some : (later : Held) → Changed AddsSome rest now later → Changed AddsSome all was later

-- the same of files that are created
pub record LeadsNew (all rest : List FileText) (was now : Held) : Type 0 where
  pub whole : (later : Held) → HoldTexts rest later → OnlyThese rest now later
      → HoldTexts all later × OnlyThese all was later
  pub some : (later : Held) → HoldFronts rest now later → OnlyThese rest now later
      → HoldFronts all was later × OnlyThese all was later

pub leads-itself : (all : List FileText) (was : Held) → Leads all all was was
leads-itself all was = record { whole = λ later c. c; some = λ later c. c }

pub leads-new-itself : (all : List FileText) (was : Held) → LeadsNew all all was was
leads-new-itself all was = record { whole = λ later h o. (h, o); some = λ later h o. (h, o) }

module _ (f : FileText) (was mid : Held) (stay : OthersStay f.name was mid) where
  -- the other files were not touched
  each-before : (Change : FileText → Option (List ℕ) → Option (List ℕ) → Type 0) (fs : List FileText) (later : Held) → IsNoFile f.name fs → Each Change fs mid later → Each Change fs was later
  each-before Change [] later none e = tt
  each-before Change (g ∷ fs) later none e =
      (subst (λ (h : Option (List ℕ)). Change g h (later g.name)) (stay g.name (λ is. none.0 (sym is))) e.0, each-before Change fs later none.1 e.1)

  stay-before : (fs : List FileText) (later : Held) → IsNoFile f.name fs → FilesStay fs mid later → FilesStay fs was later
  stay-before [] later none e = tt
  stay-before (g ∷ fs) later none e = (e.0 ∙ stay g.name (λ is. none.0 (sym is)), stay-before fs later none.1 e.1)

  fronts-before : (fs : List FileText) (later : Held) → IsNoFile f.name fs → HoldFronts fs mid later → HoldFronts fs was later
  fronts-before [] later none h = tt
  fronts-before (g ∷ fs) later none h = elim h [
    | inl k ↦ inl (k.0, fronts-before fs later none.1 k.1)
    | inr k ↦ inr (elim k.0 [ inl same ↦ inl (same ∙ stay g.name (λ is. none.0 (sym is))) | inr empty ↦ inr empty ], stay-before fs later none.1 k.1)
  ]

  others-before : (fs : List FileText) (later : Held) → OnlyThese fs mid later → OnlyThese (f ∷ fs) was later
  others-before fs later o name none = o name none.1 ∙ stay name none.0

  -- the first file changed, then the rest did
  changed-first : (Change : FileText → Option (List ℕ) → Option (List ℕ) → Type 0) (fs : List FileText) (later : Held) → IsNoFile f.name fs → Change f (was f.name) (mid f.name)
      → Changed Change fs mid later → Changed Change (f ∷ fs) was later
  changed-first Change fs later none change c = record {
    each = (subst (λ (h : Option (List ℕ)). Change f (was f.name) h) (sym (c.others f.name none)) change, each-before Change fs later none c.each);
    others = others-before fs later c.others;
  }

-- what is added whole is added in part
adds-some : (f : FileText) (was now : Option (List ℕ)) → AddsText f was now → AddsSome f was now
adds-some f was now a held is = (f.text, a held is, record { rest = []; whole = sym (append-nil f.text) })

-- nothing is a front
adds-none : (f : FileText) (was : Option (List ℕ)) → AddsSome f was was
adds-none f was held is = ([], is ∙ ap Some (sym (append-nil held)), record { rest = f.text; whole = refl })

none-change : (fs : List FileText) (was : Held) → Each AddsSome fs was was
none-change [] was = tt
none-change (f ∷ fs) was = (adds-none f (was f.name), none-change fs was)

-- a text was added to the first file that is left
pub leads-on : (all fs : List FileText) (f : FileText) (begun was now : Held) → IsNoFile f.name fs → Leads all (f ∷ fs) begun was → AddsText f (was f.name) (now f.name) → OthersStay f.name was now
    → Leads all fs begun now
leads-on all fs f begun was now none leads adds stay = record {
  whole = λ later c. leads.whole later (changed-first f was now stay AddsText fs later none adds c);
  some = λ later c. leads.some later (changed-first f was now stay AddsSome fs later none (adds-some f (was f.name) (now f.name) adds) c);
}

-- only a front of it was, and the rest stays
pub leads-broken : (all fs : List FileText) (f : FileText) (begun was now : Held) → IsNoFile f.name fs → Leads all (f ∷ fs) begun was → AddsFront f.name f.text was now → Changed AddsSome all begun now
leads-broken all fs f begun was now none leads adds =
    leads.some now (changed-first f was now adds.others AddsSome fs now none (λ held is. (adds.front.0, adds.front.2 held is, adds.front.1))
    (record { each = none-change fs now; others = λ name no. refl }))

-- the first file that is left was created
pub leads-new-on : (all fs : List FileText) (f : FileText) (begun was now : Held) → IsNoFile f.name fs → f.text ≡ [] → LeadsNew all (f ∷ fs) begun was → now f.name ≡ Some [] → OthersStay f.name was now
    → LeadsNew all fs begun now
leads-new-on all fs f begun was now none empty leads holds stay = record {
  whole = λ later h o. leads.whole later (o f.name none ∙ (holds ∙ ap Some (sym empty)), h) (others-before f was now stay fs later o);
  some = λ later h o. leads.some later
      (inl (record { front = []; holds = o f.name none ∙ holds; of_text = record { rest = f.text; whole = refl } }, fronts-before f was now stay fs later none h))
      (others-before f was now stay fs later o);
}

all-stay : (fs : List FileText) (was : Held) → FilesStay fs was was
all-stay [] was = tt
all-stay (f ∷ fs) was = (refl, all-stay fs was)

-- it could not be created
pub leads-new-broken : (all fs : List FileText) (f : FileText) (begun was now : Held) → IsNoFile f.name fs → LeadsNew all (f ∷ fs) begun was → (now f.name ≡ was f.name) ⊎ (now f.name ≡ Some []) → OthersStay f.name was now
    → HoldFronts all begun now × OnlyThese all begun now
leads-new-broken all fs f begun was now none leads first stay =
    leads.some now (inr (first, stay-before f was now stay fs now none (all-stay fs now))) (others-before f was now stay fs now (λ name no. refl))

-- a list by its first item and the rest
pub by_first : {X : Type 0} (xs : List X) (x : X) → 1 ≤ length xs → x ≡ get_or xs 0 x
    → xs ≡ x ∷ take (length xs - 1) (drop 1 xs)
by_first [] x some is = absurd (omega (arith, some))
by_first (y ∷ ys) x some is =
    ap (λ z. z ∷ ys) (sym is) ∙ ap (λ zs. x ∷ zs) (sym (take_rest (y ∷ ys) 1))

module _ (all fs : List FileText) (f : FileText) (none : IsNoFile f.name fs) (path : List ℕ) (is : path ≡ f.name) (a b c : DiskView) where
  pub creates-on : f.text ≡ [] → Told (LeadsNew all (f ∷ fs)) a.held b.held → Writes false (Empties {T = Unit {0}} {E = DiskFault} path (Ok tt)) b c
      → Told (LeadsNew all fs) a.held c.held
  creates-on empty leads w =
      let call = subst (λ (p : List ℕ). Writes false (Empties {T = Unit {0}} {E = DiskFault} p (Ok tt)) b c) is w in
      told-then {T = LeadsNew all fs} a.held b.held c.held leads call.told (λ x y z l e. leads-new-on all fs f x y z none empty l e.0 e.1)

  pub creates-stop : (fault : DiskFault) → Told (LeadsNew all (f ∷ fs)) a.held b.held → b.write_faults ≡ a.write_faults → b.read_faults ≡ a.read_faults
      → Writes true (Empties {T = Unit {0}} {E = DiskFault} path (Err fault)) b c
      → Writes true (Creates {T = Unit {0}} {E = DiskFault} all (Err fault)) a c
  creates-stop fault leads writes reads w =
      let call = subst (λ (p : List ℕ). Writes true (Empties {T = Unit {0}} {E = DiskFault} p (Err fault)) b c) is w in
      record {
        told = told-then {T = Creates {T = Unit {0}} {E = DiskFault} all (Err fault)} a.held b.held c.held leads call.told (λ x y z l e. leads-new-broken all fs f x y z none l e.0 e.1);
        cause = subst (λ (n : ℕ). RoseIf true n c.write_faults) writes call.cause;
        other_count = call.other_count ∙ reads;
      }

  pub adds-on : (text : List ℕ) → text ≡ f.text → Told (Leads all (f ∷ fs)) a.held b.held → Writes false (AppendsAll {T = Unit {0}} {E = DiskFault} path text (Ok tt)) b c
      → Told (Leads all fs) a.held c.held
  adds-on text same leads w =
      let call = subst (λ (p : List ℕ). Writes false (AppendsAll {T = Unit {0}} {E = DiskFault} p f.text (Ok tt)) b c) is (subst (λ (t : List ℕ). Writes false (AppendsAll {T = Unit {0}} {E = DiskFault} path t (Ok tt)) b c) same w) in
      told-then {T = Leads all fs} a.held b.held c.held leads call.told (λ x y z l e. leads-on all fs f x y z none l e.added e.others)

  pub adds-stop : (fault : DiskFault) (text : List ℕ) → text ≡ f.text → Told (Leads all (f ∷ fs)) a.held b.held → b.write_faults ≡ a.write_faults → b.read_faults ≡ a.read_faults
      → Writes true (AppendsAll {T = Unit {0}} {E = DiskFault} path text (Err fault)) b c
      → Writes true (Adds {T = Unit {0}} {E = DiskFault} all (Err fault)) a c
  adds-stop fault text same leads writes reads w =
      let call = subst (λ (p : List ℕ). Writes true (AppendsAll {T = Unit {0}} {E = DiskFault} p f.text (Err fault)) b c) is (subst (λ (t : List ℕ). Writes true (AppendsAll {T = Unit {0}} {E = DiskFault} path t (Err fault)) b c) same w) in
      record {
        told = told-then {T = Changed AddsSome all} a.held b.held c.held leads call.told (λ x y z l e. leads-broken all fs f x y z none l e);
        cause = subst (λ (n : ℕ). RoseIf true n c.write_faults) writes call.cause;
        other_count = call.other_count ∙ reads;
      }
