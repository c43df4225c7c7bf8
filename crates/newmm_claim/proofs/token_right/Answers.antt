use Rattle.newmm_word_step.specs.inner.Walks.{given_by}
use Rattle.newmm_claim.proofs.Tokens.{word_here, word_elsewhere, no_word}
use Rattle.newmm_claim.proofs.token_right.Goals as goal

pub returns-in-Here : goal.returns-in-Here
returns-in-Here c =
    word_here (given_by c.args.text.now c.args.pool.now) c.args.b c.args.e
    c.words_at.ensures c.in-Here.is

pub returns-in-Elsewhere : goal.returns-in-Elsewhere
returns-in-Elsewhere c =
    word_elsewhere (given_by c.args.text.now c.args.pool.now) c.args.b c.args.e
    c.words_at.ensures c.in-Elsewhere.is

pub returns-in-Nowhere : goal.returns-in-Nowhere
returns-in-Nowhere c =
    no_word (given_by c.args.text.now c.args.pool.now) c.args.b c.args.e c.words_at.ensures
    c.requires.inside c.in-Nowhere.is c.token_end.ensures
