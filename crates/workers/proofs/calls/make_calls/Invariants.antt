use Rattle.std.proofs.Common.{◌≡◌, ◌≤◌, List, ◌++◌, drop, length, vec_len, vec_capacity}
use Rattle.workers.specs.declared.shares.Response.{Response}
use Rattle.workers.specs.Sessions.{MakesAll}
use Rattle.workers.proofs.calls.make_calls.Given as goal

-- what comes of the calls that are left comes of all, after the answers so far
abbrev pub invariant-loop-call : goal.invariant-loop-call
invariant-loop-call g l = record {
  made : (u : _) (rs : List (Response _)) → MakesAll g.S.Session.does l.left (drop l.call-index l.calls) l.session u rs → MakesAll g.S.Session.does l.fn.turns l.calls l.fn.session u (l.answers.items ++ rs);
  room : length l.calls ≤ vec_capacity l.answers;
  so_far : vec_len l.answers ≡ l.call-index;
}
