use Rattle.std.proofs.Common.{◌≡◌, ◌-◌, ◌<◌, suc, List, [], ◌∷◌, ◌++◌, length, length-append, Some, None, Ok, sym, ap, ◌∙◌, arith}
use Rattle.std.proofs.lemmas.Result.{err_from_is_err_and}
use Rattle.spb_types.specs.declared.entry_word.EntryWord.{EntryWord}
use Rattle.spb_types.specs.declared.limits.TheConstants.{MOST_BRIDGES}
use Rattle.scenario.specs.Words.{next_more}
use Rattle.scenario.specs.WordForms.{entry}
use Rattle.scenario.specs.Grammar.{read}
use Rattle.scenario.specs.Extras.{more_entries}
use Rattle.scenario.proofs.EntryLaws.{entry-more, entries-end, entry-refused, entries-full}
use Rattle.scenario.proofs.entries.read_more.Goals as goal

pub returns-in_err-entry : goal.returns-in_err-entry
returns-in_err-entry c given =
    let p = err_from_is_err_and c.from_residual.result c.from_residual.ensures.1 in
    let low : 0 < MOST_BRIDGES - length c.loop-words.found = omega (arith, c.loop-words-test.true, c.len.ensures) in
    rw (p.1, p.2) (entry-refused c.in_err-entry.field-0.0 _ given c.loop-words.found c.loop-words.words _ low c.in_err-entry.ensures (c.loop-words.invariant given))

pub loop-words-preserved : goal.loop-words-preserved
loop-words-preserved c given =
    let found : List EntryWord = c.loop-words.found in
    let e : EntryWord = c.in-Some.entry in
    let there : next_more entry c.loop-words.words ≡ Ok (Some e, c.take_more.new.self) = cc (c.in_ok-entry.ensures, c.in-Some.is) in
    let grown : length (found ++ (e ∷ [])) ≡ suc (length found) = simp (length-append) (omega arith) in
    let less : MOST_BRIDGES - length found ≡ suc (MOST_BRIDGES - length (found ++ (e ∷ []))) = omega (arith, grown, c.loop-words-test.true, c.len.ensures) in
    ap (λ (es : List EntryWord). read (more_entries (MOST_BRIDGES - length es) given es) c.take_more.new.self) c.push.ensures
    ∙ (sym (entry-more _ _ given found e c.loop-words.words c.take_more.new.self less there) ∙ c.loop-words.invariant given)

pub returns-in-None : goal.returns-in-None
returns-in-None c given =
    let none : next_more entry c.loop-words.words ≡ Ok (None, c.take_more.new.self) = cc (c.in_ok-entry.ensures, c.in-None.is) in
    let low : 0 < MOST_BRIDGES - length c.loop-words.found = omega (arith, c.loop-words-test.true, c.len.ensures) in
    sym (c.loop-words.invariant given) ∙ entries-end _ given c.loop-words.found c.loop-words.words c.take_more.new.self low none

pub returns : goal.returns
returns c given =
    let full : MOST_BRIDGES - length c.loop-words.found ≡ 0 = omega (arith, c.loop-words-test.false, c.len.ensures) in
    sym (c.loop-words.invariant given) ∙ entries-full _ given c.loop-words.found c.loop-words.words full
