-- An LSP of which nothing more is heard is held for its lifetime.
use Rattle.std.proofs.Common.{◌≡◌, ℕ, ◌+◌, ◌-◌, ◌≤◌, [], ◌∷◌, ◌++◌, length, true, false, refl, ap, ◌∙◌, arith}
use Rattle.std.specs.Prelude.{nat_le, if◌then◌else◌}
use Rattle.std.proofs.lemmas.Bool.{lt-leb, le-leb}
use Rattle.spb_types.specs.declared.ports.PortSet.{PortSet}
use Rattle.lsdb.specs.declared.version.Version.{Version}
use Rattle.lsdb.specs.declared.version.Version.TheVariants.{Absent, Live, Dead}
use Rattle.lsdb.specs.Entry.{Entry, made, aged_at, aged}
use Rattle.lsdb.specs.Time.{is_live, aged_through, LivesForItsLifetime, DiesAfterIt, OthersDontAge}

-- ---- one second, by version

lives_at : (up : PortSet) (e : Entry) (v : Version) (left : ℕ) → is_live v ≡ true → e.lifetime ≡ left + 1 → 1 ≤ left → aged_at up e v ≡ record e { lifetime = left }
lives_at up e Absent left live lasts some = absurd cc
lives_at up e (Live seq sum) left live lasts some =
    let more : nat_le e.lifetime 1 ≡ false = lt-leb e.lifetime 1 (omega (arith, lasts, some)) in
    ap (λ b. if b then made (Dead seq) 0 [] up e.ssn else record e { lifetime = e.lifetime - 1 }) more ∙ ap (λ (l : ℕ). record e { lifetime = l }) (omega (arith, lasts))
lives_at up e (Dead seq) left live lasts some = absurd cc

-- a live LSP with more than a second left
pub lives_on : (up : PortSet) (e : Entry) (left : ℕ) → is_live e.version ≡ true → e.lifetime ≡ left + 1 → 1 ≤ left → aged up e ≡ record e { lifetime = left }
lives_on up e left live lasts some = lives_at up e e.version left live lasts some

-- one in its last second
pub dies : (up : PortSet) (e : Entry) (seq sum : ℕ) → e.version ≡ Live seq sum → e.lifetime ≤ 1 → aged up e ≡ made (Dead seq) 0 [] up e.ssn
dies up e seq sum is last =
    ap (aged_at up e) is ∙ ap (λ b. if b then made (Dead seq) 0 [] up e.ssn else record e { lifetime = e.lifetime - 1 }) (le-leb e.lifetime 1 last)

stands_at : (up : PortSet) (e : Entry) (v : Version) → is_live v ≡ false → aged_at up e v ≡ e
stands_at up e Absent gone = refl
stands_at up e (Live seq sum) gone = absurd cc
stands_at up e (Dead seq) gone = refl

-- and every other
pub stands : (up : PortSet) (e : Entry) → is_live e.version ≡ false → aged up e ≡ e
stands up e gone = stands_at up e e.version gone

-- ---- many seconds

pub lives_for_its_lifetime : LivesForItsLifetime
lives_for_its_lifetime [] e left live lasts some = ap (λ (l : ℕ). record e { lifetime = l }) (omega (arith, lasts))
lives_for_its_lifetime (up ∷ ups) e left live lasts some =
    let next : aged up e ≡ record e { lifetime = left + length ups } = lives_on up e (left + length ups) live (omega (arith, lasts)) (omega (arith, some)) in
    ap (aged_through ups) next ∙ lives_for_its_lifetime ups (record e { lifetime = left + length ups }) left live refl some

pub dies_after_it : DiesAfterIt
dies_after_it [] up e seq sum is lasts = dies up e seq sum is (omega (arith, lasts))
dies_after_it (first ∷ ups) up e seq sum is lasts =
    let live : is_live e.version ≡ true = ap is_live is in
    let next : aged first e ≡ record e { lifetime = length ups + 1 } = lives_on first e (length ups + 1) live (omega (arith, lasts)) (omega arith) in
    ap (aged_through (ups ++ up ∷ [])) next ∙ dies_after_it ups up (record e { lifetime = length ups + 1 }) seq sum is refl

pub others_dont_age : OthersDontAge
others_dont_age [] e gone = refl
others_dont_age (up ∷ ups) e gone = ap (aged_through ups) (stands up e gone) ∙ others_dont_age ups e gone
