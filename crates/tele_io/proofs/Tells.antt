-- What is told from call to call.
use Rattle.std.proofs.Common.{◌≡◌, ◌∙◌, ℕ, Bool, false, Option, Some, None, refl, subst}
use Rattle.contract_words.specs.Held.{Held, SameHeld}
use Rattle.contract_words.specs.Causes.{RoseIf}
use Rattle.tele_io.specs.Views.{DiskView, Told, Reads}

-- what stays was so changed
pub told-itself : {A : Type 0} (R : A → A → Type 0) (a : Option A) → ((x : A) → R x x) → Told R a a
told-itself R None same = tt
told-itself R (Some x) same = same x

-- two changes, one after the other
pub told-then : {A : Type 0} {R S T : A → A → Type 0} (a b c : Option A) → Told R a b → Told S b c → ((x y z : A) → R x y → S y z → T x z) → Told T a c
told-then None b c r s both = tt
told-then (Some x) None c r s both = absurd r
told-then (Some x) (Some y) None r s both = absurd s
told-then (Some x) (Some y) (Some z) r s both = both x y z r s

-- the same change in other words
pub told-into : {A : Type 0} {R T : A → A → Type 0} (a b : Option A) → Told R a b → ((x y : A) → R x y → T x y) → Told T a b
told-into None b r into = tt
told-into (Some x) None r into = absurd r
told-into (Some x) (Some y) r into = into x y r

-- nothing was read
pub reads-nothing : {P : Held → Type 0} (a : DiskView) → ((held : Held) → P held) → Reads false P a a
reads-nothing a tells = record {
  told = told-itself _ a.held (λ held. ((λ name. refl), tells held));
  cause = refl;
  other_count = refl;
}

-- the same read tells of more
pub reads-into : {P Q : Held → Type 0} (f g : Bool) (a b : DiskView) → f ≡ g → Reads f P a b → ((held : Held) → P held → Q held) → Reads g Q a b
reads-into {Q = Q} f g a b is r into = record {
  told = told-into {T = λ was now. SameHeld was now × Q was} a.held b.held r.told (λ was now t. (t.0, into was t.1));
  cause = subst (λ (h : Bool). RoseIf h a.read_faults b.read_faults) is r.cause;
  other_count = r.other_count;
}

-- one read after another, of which the first went well
pub reads-then : {P Q S : Held → Type 0} (f g : Bool) (a b c : DiskView) → f ≡ g → Reads false P a b → Reads f Q b c → ((x y : Held) → SameHeld x y → P x → Q y → S x) → Reads g S a c
reads-then {S = S} f g a b c is r s both = record {
  told = told-then {T = λ was now. SameHeld was now × S was} a.held b.held c.held r.told s.told
      (λ x y z p q. ((λ name. q.0 name ∙ p.0 name), both x y p.0 p.1 q.1));
  cause = subst (λ (n : ℕ). RoseIf g n c.read_faults) r.cause (subst (λ (h : Bool). RoseIf h b.read_faults c.read_faults) is s.cause);
  other_count = s.other_count ∙ r.other_count;
}
