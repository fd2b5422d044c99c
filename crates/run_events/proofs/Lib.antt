mod Logs
